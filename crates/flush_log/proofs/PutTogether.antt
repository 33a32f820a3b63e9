-- A list whose parts are written one after the other.
use Rattle.std.proofs.Common.{◌≡◌, ℕ, ◌+◌, [], ◌++◌, length, length-append, drop, ap, ap₂, ◌∙◌, append_assoc, append-nil, arith}
use Rattle.std.proofs.lemmas.List.{take_at, drop_at}
use Rattle.keys.specs.Bytes.{Bytes}
use borrow.Rule.Slice.PartMut.{put_mid}

-- a part between two others
put_between : (before part following new : Bytes) (at size : ℕ) → length before ≡ at → length part ≡ size → put_mid at size (before ++ (part ++ following)) new ≡ before ++ (new ++ following)
put_between before part following new at size a b =
    ap₂ (λ (front back : Bytes). front ++ (new ++ back)) (take_at before (part ++ following) at a)
    (ap (drop size) (drop_at before (part ++ following) at a) ∙ drop_at part following size b)

-- three parts after a first one: the second with zeros before it, the third with zeros before it, and one to the end
pub put_in_zeros : (a y b z h f old_b old_h old_f : Bytes) (at size to_h size_h to_f size_f : ℕ)
    → length a + length y ≡ at → length old_b ≡ size → at + length b + length z ≡ to_h → length old_h ≡ size_h → to_h + length h ≡ to_f → length old_f ≡ size_f
    → put_mid to_f size_f (put_mid to_h size_h (put_mid at size (a ++ (y ++ (old_b ++ (z ++ (old_h ++ old_f))))) b) h) f ≡ a ++ (y ++ (b ++ (z ++ (h ++ f))))
put_in_zeros a y b z h f old_b old_h old_f at size to_h size_h to_f size_f here old there old2 last old3 =
    let start : a ++ (y ++ (old_b ++ (z ++ (old_h ++ old_f)))) ≡ (a ++ y) ++ (old_b ++ (z ++ (old_h ++ old_f))) = simp append_assoc in
    let second : (a ++ y) ++ (b ++ (z ++ (old_h ++ old_f))) ≡ (((a ++ y) ++ b) ++ z) ++ (old_h ++ old_f) = simp append_assoc in
    let third : (((a ++ y) ++ b) ++ z) ++ (h ++ old_f) ≡ ((((a ++ y) ++ b) ++ z) ++ h) ++ (old_f ++ []) = simp (append_assoc, append-nil) in
    let all : ((((a ++ y) ++ b) ++ z) ++ h) ++ (f ++ []) ≡ a ++ (y ++ (b ++ (z ++ (h ++ f)))) = simp (append_assoc, append-nil) in
    let long : length (a ++ y) ≡ at = simp length-append here in
    let longer : length (((a ++ y) ++ b) ++ z) ≡ to_h = simp length-append (omega arith) in
    let longest : length ((((a ++ y) ++ b) ++ z) ++ h) ≡ to_f = simp length-append (omega arith) in
    ap (λ (l : Bytes). put_mid to_f size_f (put_mid to_h size_h l h) f) (ap (λ (l : Bytes). put_mid at size l b) start ∙ put_between (a ++ y) old_b _ b at size long old)
    ∙ ap (λ (l : Bytes). put_mid to_f size_f l f) (ap (λ (l : Bytes). put_mid to_h size_h l h) second ∙ put_between (((a ++ y) ++ b) ++ z) old_h old_f h to_h size_h longer old2)
    ∙ ap (λ (l : Bytes). put_mid to_f size_f l f) third
    ∙ put_between ((((a ++ y) ++ b) ++ z) ++ h) old_f [] f to_f size_f longest old3
    ∙ all

-- parts that are known
pub same_parts : (a a2 y b b2 z h h2 f f2 : Bytes) → a ≡ a2 → b ≡ b2 → h ≡ h2 → f ≡ f2 → a ++ (y ++ (b ++ (z ++ (h ++ f)))) ≡ a2 ++ (y ++ (b2 ++ (z ++ (h2 ++ f2))))
same_parts a a2 y b b2 z h h2 f f2 p q r s =
    ap₂ (λ (us vs : Bytes). us ++ (y ++ vs)) p (ap₂ (λ (us vs : Bytes). us ++ (z ++ vs)) q (ap₂ (λ (us vs : Bytes). us ++ vs) r s))
