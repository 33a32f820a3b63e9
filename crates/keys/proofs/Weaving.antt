-- Lemmas on pieces whose scans without rows are in a separate list.
use Rattle.std.specs.Prelude.{◌≡◌, ℕ, suc, ◌+◌, ◌≤◌, List, [], ◌∷◌, ◌++◌, Option, Some, None, is_some, false, option_to_list, length, take, drop}
use Rattle.std.proofs.Common.{refl, ap, sym, ◌∙◌, arith}
use Rattle.std.proofs.lemmas.List.{append_assoc, length-append, take-append-drop, take-append-le, drop-append-le, take_all, drop_all}
use Rattle.keys.specs.declared.command.Reply.{Reply}
use Rattle.keys.specs.declared.command.Reply.TheVariants.{Rows}
use Rattle.keys.specs.declared.piece.Piece.{Piece}
use Rattle.keys.specs.declared.pieces.EmptyScan.{EmptyScan}
use Rattle.keys.specs.PlacedPieces.{by_place}
use Rattle.keys.specs.Woven.{piece_of_empty_scan, woven, StandWithin}
use Rattle.keys.proofs.PlacedPieces.{length-by_place}

module _ {A : Type 0} where
  -- the list with one piece more in it
  abbrev pub put_in : List (Piece A) → EmptyScan → List (Piece A)
  put_in ps r = take r.before ps ++ piece_of_empty_scan r ∷ drop r.before ps

  length-put_in : (ps : List (Piece A)) (r : EmptyScan) → length (put_in ps r) ≡ suc (length ps)
  length-put_in ps r =
      let both = length-append (take r.before ps) (piece_of_empty_scan {A = A} r ∷ drop r.before ps) in
      let all = length-append (take r.before ps) (drop r.before ps) in
      let same = ap length (take-append-drop r.before ps) in
      omega (arith, both, all, same)

  pub length-woven : (ps : List (Piece A)) (rs : List EmptyScan) → length (woven ps rs) ≡ length ps + length rs
  length-woven ps [] = omega arith
  length-woven ps (r ∷ rs) = let more = length-woven (put_in ps r) rs in let one = length-put_in ps r in omega (arith, more, one)

  -- ---- one piece more at the end

  put_in-push : (ps : List (Piece A)) (r : EmptyScan) (p : Piece A) → r.before ≤ length ps → put_in (ps ++ p ∷ []) r ≡ put_in ps r ++ p ∷ []
  put_in-push ps r p h =
      rw (take-append-le r.before ps (p ∷ []) h, drop-append-le r.before ps (p ∷ []) h, append_assoc (take r.before ps) (piece_of_empty_scan {A = A} r ∷ drop r.before ps) (p ∷ [])) refl

  pub woven-push : (ps : List (Piece A)) (rs : List EmptyScan) (p : Piece A) → StandWithin (length ps) rs → woven (ps ++ p ∷ []) rs ≡ woven ps rs ++ p ∷ []
  woven-push ps [] p h = refl
  woven-push ps (r ∷ rs) p h =
      ap (λ (qs : List (Piece A)). woven qs rs) (put_in-push ps r p h.0)
      ∙ woven-push (put_in ps r) rs p (rw (length-put_in ps r) h.1)

  pub woven-empty_scans : (ps : List (Piece A)) (rs : List EmptyScan) (r : EmptyScan) → r.before ≡ length (woven ps rs) → woven ps (rs ++ r ∷ []) ≡ woven ps rs ++ piece_of_empty_scan r ∷ []
  woven-empty_scans ps [] r h =
      rw (take_all r.before ps (omega (arith, h)), drop_all r.before ps (omega (arith, h))) refl
  woven-empty_scans ps (q ∷ rs) r h = woven-empty_scans (put_in ps q) rs r h

-- ---- positions

pub StandWithin-more : (n m : ℕ) (rs : List EmptyScan) → n ≤ m → StandWithin n rs → StandWithin m rs
StandWithin-more n m [] l h = tt
StandWithin-more n m (r ∷ rs) l h = let first = h.0 in (omega (arith, first, l), StandWithin-more (suc n) (suc m) rs (omega (arith, l)) h.1)

pub StandWithin-push : (n : ℕ) (rs : List EmptyScan) (r : EmptyScan) → StandWithin n rs → r.before ≤ n + length rs → StandWithin n (rs ++ r ∷ [])
StandWithin-push n [] r h l = (omega (arith, l), tt)
StandWithin-push n (q ∷ rs) r h l = (h.0, StandWithin-push (suc n) rs r h.1 (omega (arith, l)))

-- ---- the three parts of a page's answers

is_none_by : {X : Type 0} → (o : Option X) → is_some o ≡ false → o ≡ None
is_none_by None h = refl
is_none_by (Some x) h = absurd (cc)

module _ {A : Type 0} where
  module _ (first : Option (Piece A)) (rest now : List (Piece A)) (rs : List EmptyScan) (p : Piece A) (h : StandWithin (length (option_to_list first ++ rest)) rs) where
    abbrev held : List (Piece A)
    held = option_to_list first ++ rest

    module _ (none : is_some first ≡ false) (nothing : rest ≡ []) where
      alone : p ∷ rest ≡ held ++ p ∷ []
      alone = rw (is_none_by first none, nothing) refl

      pub first_pushed : woven (p ∷ rest) rs ≡ woven (option_to_list first ++ rest) rs ++ p ∷ []
      first_pushed = ap (λ (qs : List (Piece A)). woven qs rs) alone ∙ woven-push held rs p h

      pub first_within : StandWithin (length (p ∷ rest)) rs
      first_within = StandWithin-more (length held) (length (p ∷ rest)) rs (let one = ap length alone in let both = length-append held (p ∷ []) in omega (arith, one, both)) h

    module _ (more : now ≡ rest ++ p ∷ []) where
      following : option_to_list first ++ now ≡ held ++ p ∷ []
      following = ap (λ (qs : List (Piece A)). option_to_list first ++ qs) more ∙ sym (append_assoc (option_to_list first) rest (p ∷ []))

      pub rest_pushed : woven (option_to_list first ++ now) rs ≡ woven (option_to_list first ++ rest) rs ++ p ∷ []
      rest_pushed = ap (λ (qs : List (Piece A)). woven qs rs) following ∙ woven-push held rs p h

      pub rest_within : StandWithin (length (option_to_list first ++ now)) rs
      rest_within = StandWithin-more (length held) (length (option_to_list first ++ now)) rs (let one = ap length following in let both = length-append held (p ∷ []) in omega (arith, one, both)) h

  module _ (ps : List (Piece A)) (rs now : List EmptyScan) (r : EmptyScan) (p : Piece A) (more : now ≡ rs ++ r ∷ []) (count : r.before ≡ length (woven ps rs)) where
    pub rowless_pushed : r.place ≡ p.place → p.reply ≡ Rows [] → woven ps now ≡ woven ps rs ++ p ∷ []
    rowless_pushed here empty =
        let same : piece_of_empty_scan {A = A} r ≡ p = rw here (ap (λ (x : Reply A). record { place = p.place; reply = x }) (sym empty)) in
        ap (λ (qs : List EmptyScan). woven ps qs) more ∙ woven-empty_scans ps rs r count ∙ ap (λ (q : Piece A). woven ps rs ++ q ∷ []) same

    pub rowless_within : StandWithin (length ps) rs → StandWithin (length ps) now
    rowless_within h = rw more (StandWithin-push (length ps) rs r h (let all = length-woven ps rs in omega (arith, all, count)))

  pub counted : (first : Option (Piece A)) (rest : List (Piece A)) (rs : List EmptyScan) (all : List (Piece A)) (n : ℕ) → by_place (woven (option_to_list first ++ rest) rs) ≡ all → n ≡ length all → n ≡ length (woven (option_to_list first ++ rest) rs)
  counted first rest rs all n e h = h ∙ sym (ap length e) ∙ length-by_place (woven (option_to_list first ++ rest) rs)
