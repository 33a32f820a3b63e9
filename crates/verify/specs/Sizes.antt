-- The sizes of a page, by its runs and its base.
use Rattle.std.specs.Prelude.{Bool, ◌&&◌, nat_le, List, length}
use Rattle.std.specs.List.{list_all}
use Rattle.keys.specs.Bytes.{Pairs, Changes}
use Rattle.keys.specs.declared.settings.Settings.{Settings}
use Rattle.index_page.specs.Page.{changes_over}
use Rattle.index_page.specs.Rules.{is_run_sized, is_short_change}

-- whether runs and base are no larger than the settings allow, and keys and cells are no longer
abbrev pub sizes_under : {V : Type 0} → Settings → (V → Bool) → List (Changes V) → Pairs V → Bool
sizes_under s is_short runs base = nat_le (length base) s.fan && list_all (is_run_sized s) runs && list_all (is_short_change s is_short) (changes_over runs base)
