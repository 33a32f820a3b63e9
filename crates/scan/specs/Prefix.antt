-- The pairs whose keys begin with some bytes.
use Rattle.std.specs.Prelude.{Bool, nat_eq}
use Rattle.std.specs.List.{filter, starts_with}
use Rattle.keys.specs.Bytes.{Bytes, Pairs}

-- whether a key begins with these bytes
abbrev pub begins_with : Bytes → Bytes → Bool
begins_with prefix k = starts_with nat_eq k prefix

-- the pairs of a map whose keys begin with these bytes
abbrev pub with_prefix : {V : Type 0} → Bytes → Pairs V → Pairs V
with_prefix prefix m = filter (λ e. begins_with prefix e.0) m
