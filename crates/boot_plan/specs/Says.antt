-- What it means that a step of the code is a copy of the definition. Assumes nothing.
use Rattle.std.specs.Prelude.{◌≡◌, ◌+◌}
use Rattle.mem_flash.specs.Flash.{Area, active, dfu}
use Rattle.rules.specs.Steps.{Copy}
use Rattle.boot_plan.specs.declared.Direction.{Direction}
use Rattle.boot_plan.specs.declared.Direction.TheVariants.{ToActive, ToDfu}
use Rattle.boot_plan.specs.declared.PageCopy.{PageCopy}

unfoldable pub toward : Direction → Area
toward ToActive = active
toward ToDfu = dfu

-- the image, the two pages, and the word of the mark
pub record Says (s : PageCopy) (c : Copy) : Type 0 where
  pub to : toward s.direction ≡ c.to
  pub source : s.from.0 ≡ c.source
  pub target : s.to.0 ≡ c.target
  pub mark : s.mark.0 ≡ 2 + c.mark
