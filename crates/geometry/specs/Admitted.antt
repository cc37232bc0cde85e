-- What a boot that is not refused may count on: the same table, read as facts. Assumes nothing.
use Rattle.std.specs.Prelude.{◌≡◌, ℕ, ◌+◌, ◌%◌, ◌≤◌, ◌<◌}
use Rattle.geometry.specs.declared.Geometry.{Geometry}
use Rattle.geometry.specs.Geometry.{page, pages, words}
use Rattle.geometry.specs.Refusals.{most_number, most_page, most_length, boot_words}

-- a geometry number within its limits
pub record Number (n : ℕ) : Type 0 where
  pub some : 0 < n
  pub most : n ≤ most_number

-- row 1 does not hold of the seven numbers
pub record Numbers (g : Geometry) : Type 0 where
  pub ea : Number g.ea
  pub wa : Number g.wa
  pub ed : Number g.ed
  pub wd : Number g.wd
  pub es : Number g.state.es
  pub ws : Number g.state.ws
  pub b : Number g.b

-- none of the four rows holds
pub record Admitted (g : Geometry) (la ld ls : ℕ) : Type 0 where
  pub numbers : Numbers g
  pub active_most : la ≤ most_length
  pub dfu_most : ld ≤ most_length
  pub state_most : ls ≤ most_length
  pub page_most : page g ≤ most_page
  pub page_ea : page g % g.ea ≡ 0
  pub page_ed : page g % g.ed ≡ 0
  pub page_wa : page g % g.wa ≡ 0
  pub page_wd : page g % g.wd ≡ 0
  pub page_b : page g % g.b ≡ 0
  pub chunk_wa : g.b % g.wa ≡ 0
  pub chunk_wd : g.b % g.wd ≡ 0
  pub chunk_ws : g.state.ws ≤ g.b
  pub active_pages : la % page g ≡ 0
  pub dfu_pages : ld % page g ≡ 0
  pub dfu_longer : la + page g ≤ ld
  pub unit_words : g.state.es % g.state.ws ≡ 0
  pub state_units_lem : ls % g.state.es ≡ 0
  pub state_words : boot_words (pages g la) ≤ words g.state.ws ls
