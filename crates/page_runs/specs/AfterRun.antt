-- A page after a run, and its class.
use Rattle.std.specs.Prelude.{ℕ, ◌+◌, ◌/◌, Bool, false, ◌||◌, nat_lt, if◌then◌else◌, [], ◌∷◌, length}
use Rattle.keys.specs.Bytes.{Changes}
use Rattle.keys.specs.declared.settings.Settings.{Settings}
use Rattle.delta_chain.specs.Layers.{Layers, with_run, entries_of, depth_of}
use Rattle.page_runs.specs.declared.class.Class.{Class}
use Rattle.page_runs.specs.declared.class.Class.TheVariants.{Same, Changed, Thin, Fat}

-- whether the page must be replaced: the run has more than `fan` entries, or the page would have more than `chain` runs
abbrev pub must_replace : {V : Type 0} → Settings → Layers V → Changes V → Bool
must_replace s p run = nat_lt s.fan (length run) || nat_lt s.chain (depth_of p + 1)

-- the replaced page: a base of its entries with the run applied, and no runs
abbrev pub replaced : {V : Type 0} → Layers V → Changes V → Layers V
replaced p run = record { runs = []; base = with_run (entries_of p) run }

-- the page with the run prepended
abbrev pub in_front : {V : Type 0} → Layers V → Changes V → Layers V
in_front p run = record { runs = run ∷ p.runs; base = p.base }

-- the page after a run; an empty run does not change it
abbrev pub after_run : {V : Type 0} → Settings → Layers V → Changes V → Layers V
after_run s p [] = p
after_run s p (c ∷ cs) = if must_replace s p (c ∷ cs) then replaced p (c ∷ cs) else in_front p (c ∷ cs)

-- whether a run causes the page to be replaced
abbrev pub is_replaced : {V : Type 0} → Settings → Layers V → Changes V → Bool
is_replaced s p [] = false
is_replaced s p (c ∷ cs) = must_replace s p (c ∷ cs)

-- the class of a replaced page of n entries
abbrev pub class_of_size : Settings → ℕ → Class
class_of_size s n = if nat_lt n (s.fan / 4) then Thin else (if nat_lt s.fan n then Fat else Changed)

-- the class of a page after a run
abbrev pub class_after : {V : Type 0} → Settings → Layers V → Changes V → Class
class_after s p [] = Same
class_after s p (c ∷ cs) = if must_replace s p (c ∷ cs) then class_of_size s (length (with_run (entries_of p) (c ∷ cs))) else Changed
