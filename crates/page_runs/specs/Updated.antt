-- A page under its pid after a run.
use Rattle.std.specs.Prelude.{Bool, true, false}
use Rattle.keys.specs.Bytes.{Changes}
use Rattle.keys.specs.declared.settings.Settings.{Settings}
use Rattle.mapping.specs.Levels.{Placed}
use Rattle.page_runs.specs.AfterRun.{after_run, class_after, is_replaced}
use Rattle.page_runs.specs.declared.class.Class.{Class}
use Rattle.page_runs.specs.declared.class.Class.TheVariants.{Thin, Fat}

-- a page after its run, its class, and whether it was replaced
pub record Updated (V : Type 0) : Type 0 where
  pub placed : Placed V
  pub class : Class
  pub replaced : Bool

-- the page after a run, under its pid and with its low key
abbrev pub updated : {V : Type 0} → Settings → Placed V → Changes V → Updated V
updated s p run = record {
  placed = record { pid = p.pid; page = record { low = p.page.low; layers = after_run s p.page.layers run } };
  class = class_after s p.page.layers run;
  replaced = is_replaced s p.page.layers run;
}

abbrev pub is_thin_class : Class → Bool
is_thin_class Thin = true
is_thin_class _ = false

abbrev pub is_fat_class : Class → Bool
is_fat_class Fat = true
is_fat_class _ = false

abbrev pub is_thin : {V : Type 0} → Updated V → Bool
is_thin w = is_thin_class w.class

abbrev pub is_fat : {V : Type 0} → Updated V → Bool
is_fat w = is_fat_class w.class
