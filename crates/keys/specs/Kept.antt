-- The bytes of a key or a value, in either of the two representations.
use Rattle.keys.specs.Bytes.{Bytes}
use Rattle.keys.specs.declared.kept_bytes.Form.{Form}
use Rattle.keys.specs.declared.kept_bytes.Form.TheVariants.{Short, Long}

-- the bytes stored in place, or those of the list
abbrev pub bytes_of : {A : Type 0} → Form A → Bytes
bytes_of (Short short) = short
bytes_of (Long long) = long.items
