-- The worked rows on settings, computed by the checker: fan 4, chain 2, keys and values of at most 16 bytes, segments of 256 bytes, four of them; and
-- the faults of a fan of 3 and of keys of 64 bytes.
use Rattle.std.specs.Prelude.{◌≡◌, ◌+◌, ◌*◌, None, Some}
use Rattle.std.proofs.Common.{refl}
use Rattle.keys.specs.Limits.{longest_frame, first_bad_field}
use Rattle.keys.specs.declared.settings.Field.TheVariants.{Fan, Chain, SegSize}
use Rattle.keys.proofs.Literals.{S}

all_good : first_bad_field S ≡ None
all_good = refl

-- row 25
fan_of_3 : first_bad_field (record S { fan = 3 }) ≡ Some Fan
fan_of_3 = refl

-- the headers of a segment and of a full frame, and a low key; and four changes, each with a key and a value
keys_of_64 : longest_frame (record S { max_key = 64 }) ≡ 16 + 17 + 64 + 4 * (3 + 64 + (2 + 16))
keys_of_64 = refl

too_long_for_a_segment : first_bad_field (record S { max_key = 64 }) ≡ Some SegSize
too_long_for_a_segment = refl

-- the first of several bad fields is reported
several : first_bad_field (record S { chain = 17; segments = 2 }) ≡ Some Chain
several = refl
