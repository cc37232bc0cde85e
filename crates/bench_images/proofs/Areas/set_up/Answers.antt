-- `set_up`: an admitted geometry has a page, and the images start; a refused one leaves them FF. Assumes nothing.
use Rattle.std.proofs.Common.{◌≡◌, refl, ap, ◌∙◌, length, arith}
use Rattle.lines.specs.Lines.{most_length}
use Rattle.bench_images.specs.Images.{filled, blank}
use Rattle.bench_images.proofs.Laws.{begun_refused, page_there, begun_admitted}
use Rattle.bench_images.proofs.Areas.set_up.Goals as goal

pub returns-in_default : goal.returns-in_default
returns-in_default c =
    let a : length c.args.self.now.active ≡ most_length = omega arith in
    let d : length c.args.self.now.dfu ≡ most_length = omega arith in
    let s : length c.args.self.now.state ≡ most_length = omega arith in (
      refl,
      refl,
      begun_refused _ _ _ c.boot_verdict-verdict.ensures _ _ c.in_default.is
          (c.wipe-in_default.ensures ∙ ap blank a)
          (c.wipe-in_default-2.ensures ∙ ap blank d)
          (c.wipe.ensures ∙ ap blank s),
    )

pub fill-requires : goal.fill-requires
fill-requires c = page_there _ c.args.l c.boot_verdict-verdict.result c.boot_verdict-verdict.ensures c.in-Ok.is _ c.page_size-size.ensures

pub nonzero_div-l : goal.nonzero_div-l
nonzero_div-l c = page_there _ c.args.l c.boot_verdict-verdict.result c.boot_verdict-verdict.ensures c.in-Ok.is _ c.page_size-size.ensures

pub fill-requires-2 : goal.fill-requires-2
fill-requires-2 c = page_there _ c.args.l c.boot_verdict-verdict.result c.boot_verdict-verdict.ensures c.in-Ok.is _ c.page_size-size.ensures

pub returns : goal.returns
returns c =
    let a : length c.args.self.now.active ≡ most_length = omega arith in
    let d : length c.args.self.now.dfu ≡ most_length = omega arith in
    let s : length c.args.self.now.state ≡ most_length = omega arith in (
      refl,
      refl,
      begun_admitted _ _ _ c.boot_verdict-verdict.ensures c.in-Ok.is _ _ c.page_size-size.ensures
          (c.fill.ensures ∙ ap (filled _ _) a)
          (c.fill-2.ensures ∙ ap (filled _ _) d)
          (c.wipe.ensures ∙ ap blank s),
    )
