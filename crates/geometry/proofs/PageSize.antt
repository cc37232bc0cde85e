-- The page: both erase sizes divide it, and no smaller page would serve (specs/PageSize). What is cited of it stands here, so that its
-- definition is opened nowhere else. Assumes nothing.
use mathlib.Core.Path.{◌≡◌}
use Prim.Native.Nat.{◌*◌, ◌%◌, ◌≤◌, ◌<◌}
use native.Mathlib.Nat.{le_trans, mul-le-mul, mod-eq-zero_of_dvd}
use Rattle.gcd.proofs.Least.{common_some, common_first, common_second, common_least, common_larger, common_most}
use Rattle.geometry.specs.declared.Geometry.{Geometry}
use Rattle.geometry.specs.Geometry.{page}
use Rattle.geometry.specs.Refusals.{most_number}
use Rattle.geometry.specs.Admitted.{Numbers}
use Rattle.geometry.specs.PageSize.{LeastPage}

module _ {g : Geometry} (s : Numbers g) where
  pub page_some : 0 < page g
  unfolding page
  page_some = common_some g.ea g.ed s.ea.some s.ed.some

  pub page_ea : page g % g.ea ≡ 0
  unfolding page
  page_ea = mod-eq-zero_of_dvd _ (common_first g.ea g.ed s.ea.some s.ed.some)

  pub page_ed : page g % g.ed ≡ 0
  unfolding page
  page_ed = mod-eq-zero_of_dvd _ (common_second g.ea g.ed s.ea.some s.ed.some)

  -- whatever row 2 says of it, it can be computed
  pub page_fits : page g ≤ most_number * most_number
  unfolding page
  page_fits = le_trans (common_most g.ea g.ed s.ea.some s.ed.some) (mul-le-mul s.ea.most s.ed.most)

  pub least_page : LeastPage g
  unfolding page
  least_page =
      record {
        active = common_first g.ea g.ed s.ea.some s.ed.some;
        dfu = common_second g.ea g.ed s.ea.some s.ed.some;
        least = common_least g.ea g.ed s.ea.some s.ed.some;
        larger = common_larger g.ea g.ed s.ea.some s.ed.some;
      }
