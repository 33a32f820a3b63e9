-- Lemmas on pieces in the order of their places.
use Rattle.std.specs.Prelude.{◌≡◌, ℕ, ◌<◌, ◌≤◌, ◌==◌, Bool, true, false, List, [], ◌∷◌, ◌++◌, length, nat_lt, ⊤}
use Rattle.std.proofs.Common.{refl, sym, ap, ◌∙◌, arith, subst}
use Rattle.std.proofs.lemmas.Bool.{eqb-true, eq-eqb, ltb-true, ltb-false}
use Rattle.std.proofs.lemmas.List.{append-nil, append_assoc}
use Rattle.std.proofs.lemmas.List.Sorted.{IsPermutation-refl, IsPermutation-cons, IsPermutation-trans, IsPermutation-append, IsPermutation-middle, length_permutation}
use Rattle.std.specs.List.{AllByRecursion, filter}
use Rattle.std.specs.List.Sorted.{IsPermutation}
use Rattle.keys.specs.PlacedPieces.{with_piece, with_each, by_place}
use Rattle.keys.specs.declared.piece.Piece.{Piece}

module _ {A : Type 0} where
  -- ---- one piece more at the end

  with_each-push : (done ps : List (Piece A)) (p : Piece A) → with_each done (ps ++ p ∷ []) ≡ with_piece (with_each done ps) p
  with_each-push done [] p = refl
  with_each-push done (q ∷ ps) p = with_each-push (with_piece done q) ps p

  pub by_place-push : (ps : List (Piece A)) (p : Piece A) → by_place (ps ++ p ∷ []) ≡ with_piece (by_place ps) p
  by_place-push ps p = with_each-push [] ps p

  -- ---- the same pieces

  same_by : (b : Bool) (ps : List (Piece A)) (q p : Piece A) → nat_lt p.place q.place ≡ b → IsPermutation (p ∷ ps) (with_piece ps p) → IsPermutation (p ∷ (q ∷ ps)) (with_piece (q ∷ ps) p)
  same_by true ps q p e h = rw e (IsPermutation-refl (p ∷ (q ∷ ps)))
  same_by false ps q p e h =
      rw e (IsPermutation-trans (p ∷ (q ∷ ps)) (q ∷ (p ∷ ps)) (q ∷ with_piece ps p) (IsPermutation-middle (p ∷ []) q ps) (IsPermutation-cons q (p ∷ ps) (with_piece ps p) h))

  same-with_piece : (ps : List (Piece A)) (p : Piece A) → IsPermutation (p ∷ ps) (with_piece ps p)
  same-with_piece [] p = IsPermutation-refl (p ∷ [])
  same-with_piece (q ∷ ps) p = same_by (nat_lt p.place q.place) ps q p refl (same-with_piece ps p)

  same-with_each : (done ps : List (Piece A)) → IsPermutation (done ++ ps) (with_each done ps)
  same-with_each done [] = subst (λ (qs : List (Piece A)). IsPermutation qs done) (sym (append-nil done)) (IsPermutation-refl done)
  same-with_each done (p ∷ ps) =
      IsPermutation-trans (done ++ p ∷ ps) (p ∷ (done ++ ps)) (with_each (with_piece done p) ps) (IsPermutation-middle done p ps)
      (IsPermutation-trans (p ∷ (done ++ ps)) (with_piece done p ++ ps) (with_each (with_piece done p) ps) (IsPermutation-append (p ∷ done) (with_piece done p) ps ps (same-with_piece done p) (IsPermutation-refl ps))
      (same-with_each (with_piece done p) ps))

  pub same-by_place : (ps : List (Piece A)) → IsPermutation ps (by_place ps)
  same-by_place ps = same-with_each [] ps

  pub length-by_place : (ps : List (Piece A)) → length (by_place ps) ≡ length ps
  length-by_place ps = length_permutation ps (by_place ps) (same-by_place ps)

  -- ---- the order of places

  abbrev pub AreInOrder : List (Piece A) → Type 0
  AreInOrder [] = ⊤
  AreInOrder (p ∷ ps) = AllByRecursion (λ q. p.place ≤ q.place) ps × AreInOrder ps

  least_by : (b : Bool) (n : ℕ) (ps : List (Piece A)) (q p : Piece A) → nat_lt p.place q.place ≡ b → n ≤ p.place → n ≤ q.place → AllByRecursion (λ r. n ≤ r.place) ps → AllByRecursion (λ r. n ≤ r.place) (with_piece ps p) → AllByRecursion (λ r. n ≤ r.place) (with_piece (q ∷ ps) p)
  least_by true n ps q p e l m a b = rw e (l, (m, a))
  least_by false n ps q p e l m a b = rw e (m, b)

  least-with_piece : (n : ℕ) (ps : List (Piece A)) (p : Piece A) → n ≤ p.place → AllByRecursion (λ q. n ≤ q.place) ps → AllByRecursion (λ q. n ≤ q.place) (with_piece ps p)
  least-with_piece n [] p l a = (l, tt)
  least-with_piece n (q ∷ ps) p l a = least_by (nat_lt p.place q.place) n ps q p refl l a.0 a.1 (least-with_piece n ps p l a.1)

  least_lower : (m n : ℕ) (ps : List (Piece A)) → m ≤ n → AllByRecursion (λ q. n ≤ q.place) ps → AllByRecursion (λ q. m ≤ q.place) ps
  least_lower m n [] l a = tt
  least_lower m n (q ∷ ps) l a = let first = a.0 in (omega (arith, first, l), least_lower m n ps l a.1)

  in_order_by : (b : Bool) (ps : List (Piece A)) (q p : Piece A) → nat_lt p.place q.place ≡ b → AreInOrder (q ∷ ps) → AreInOrder (with_piece ps p) → AreInOrder (with_piece (q ∷ ps) p)
  in_order_by true ps q p e h k =
      let below = ltb-true p.place q.place e in
      let l : p.place ≤ q.place = omega (arith, below) in
      rw e ((l, least_lower p.place q.place ps l h.0), h)
  in_order_by false ps q p e h k =
      let below = ltb-false p.place q.place e in
      let l : q.place ≤ p.place = omega (arith, below) in
      rw e (least-with_piece q.place ps p l h.0, k)

  in_order-with_piece : (ps : List (Piece A)) (p : Piece A) → AreInOrder ps → AreInOrder (with_piece ps p)
  in_order-with_piece [] p h = (tt, tt)
  in_order-with_piece (q ∷ ps) p h = in_order_by (nat_lt p.place q.place) ps q p refl h (in_order-with_piece ps p h.1)

  in_order-with_each : (done ps : List (Piece A)) → AreInOrder done → AreInOrder (with_each done ps)
  in_order-with_each done [] h = h
  in_order-with_each done (p ∷ ps) h = in_order-with_each (with_piece done p) ps (in_order-with_piece done p h)

  pub in_order-by_place : (ps : List (Piece A)) → AreInOrder (by_place ps)
  in_order-by_place ps = in_order-with_each [] ps tt

  -- ---- the pieces at a place keep their order

  abbrev pub at_place : ℕ → List (Piece A) → List (Piece A)
  at_place n ps = filter (λ p. p.place == n) ps

  none_by : (b : Bool) (n : ℕ) (q : Piece A) (ps : List (Piece A)) → (q.place == n) ≡ b → n < q.place → at_place n ps ≡ [] → at_place n (q ∷ ps) ≡ []
  none_by true n q ps e l h = absurd (let same = eqb-true q.place n e in omega (arith, same, l))
  none_by false n q ps e l h = rw e h

  none_above : (n m : ℕ) (ps : List (Piece A)) → n < m → AllByRecursion (λ q. m ≤ q.place) ps → at_place n ps ≡ []
  none_above n m [] l a = refl
  none_above n m (q ∷ ps) l a = let first = a.0 in none_by (q.place == n) n q ps refl (omega (arith, l, first)) (none_above n m ps l a.1)

  cons_at_by : (b : Bool) (n : ℕ) (q : Piece A) (ps qs rs : List (Piece A)) → (q.place == n) ≡ b → at_place n ps ≡ at_place n qs ++ rs → at_place n (q ∷ ps) ≡ at_place n (q ∷ qs) ++ rs
  cons_at_by true n q ps qs rs e h = rw e (ap (λ (xs : List (Piece A)). q ∷ xs) h)
  cons_at_by false n q ps qs rs e h = rw e h

  -- the first piece stays before what comes after it
  cons_at : (n : ℕ) (q : Piece A) (ps qs rs : List (Piece A)) → at_place n ps ≡ at_place n qs ++ rs → at_place n (q ∷ ps) ≡ at_place n (q ∷ qs) ++ rs
  cons_at n q ps qs rs h = cons_at_by (q.place == n) n q ps qs rs refl h

  front_by : (b : Bool) (n : ℕ) (p : Piece A) (ps : List (Piece A)) → (p.place == n) ≡ b → (n ≡ p.place → at_place n ps ≡ []) → at_place n (p ∷ ps) ≡ at_place n ps ++ at_place n (p ∷ [])
  front_by true n p ps e h = let none = h (sym (eqb-true p.place n e)) in rw (e, none) refl
  front_by false n p ps e h = rw e (sym (append-nil (at_place n ps)))

  at_by : (b : Bool) (n : ℕ) (ps : List (Piece A)) (q p : Piece A) → nat_lt p.place q.place ≡ b → AreInOrder (q ∷ ps) → at_place n (with_piece ps p) ≡ at_place n ps ++ at_place n (p ∷ []) → at_place n (with_piece (q ∷ ps) p) ≡ at_place n (q ∷ ps) ++ at_place n (p ∷ [])
  at_by true n ps q p e a h =
      let below = ltb-true p.place q.place e in
      rw e (front_by (p.place == n) n p (q ∷ ps) refl (λ s. none_above n q.place (q ∷ ps) (omega (arith, s, below)) (omega arith, a.0)))
  at_by false n ps q p e a h = rw e (cons_at n q (with_piece ps p) ps (at_place n (p ∷ [])) h)

  at-with_piece : (n : ℕ) (ps : List (Piece A)) (p : Piece A) → AreInOrder ps → at_place n (with_piece ps p) ≡ at_place n ps ++ at_place n (p ∷ [])
  at-with_piece n [] p a = refl
  at-with_piece n (q ∷ ps) p a = at_by (nat_lt p.place q.place) n ps q p refl a (at-with_piece n ps p a.1)

  first_at : (b : Bool) (n : ℕ) (p : Piece A) (ps : List (Piece A)) → (p.place == n) ≡ b → at_place n (p ∷ ps) ≡ at_place n (p ∷ []) ++ at_place n ps
  first_at true n p ps e = rw e refl
  first_at false n p ps e = rw e refl

  at-with_each : (n : ℕ) (done ps : List (Piece A)) → AreInOrder done → at_place n (with_each done ps) ≡ at_place n done ++ at_place n ps
  at-with_each n done [] a = sym (append-nil (at_place n done))
  at-with_each n done (p ∷ ps) a =
      at-with_each n (with_piece done p) ps (in_order-with_piece done p a)
      ∙ ap (λ (xs : List (Piece A)). xs ++ at_place n ps) (at-with_piece n done p a)
      ∙ append_assoc (at_place n done) (at_place n (p ∷ [])) (at_place n ps)
      ∙ ap (λ (xs : List (Piece A)). at_place n done ++ xs) (sym (first_at (p.place == n) n p ps refl))

  pub at-by_place : (n : ℕ) (ps : List (Piece A)) → at_place n (by_place ps) ≡ at_place n ps
  at-by_place n ps = at-with_each n [] ps tt

  -- ---- lists in order with the same pieces at each place are equal

  here : (p : Piece A) (ps : List (Piece A)) → at_place p.place (p ∷ ps) ≡ p ∷ at_place p.place ps
  here p ps = let e : (p.place == p.place) ≡ true = eq-eqb p.place p.place refl in rw e refl

  not_none : (p : Piece A) (ps : List (Piece A)) → [] ≡ p ∷ ps → ⊥
  not_none p ps e = absurd (cc)

  not_before : (p q : Piece A) (ps qs : List (Piece A)) → p.place < q.place → AllByRecursion (λ r. q.place ≤ r.place) qs → at_place p.place (p ∷ ps) ≡ at_place p.place (q ∷ qs) → ⊥
  not_before p q ps qs l a e =
      not_none p (at_place p.place ps) (sym (none_above p.place q.place (q ∷ qs) l (omega arith, a)) ∙ sym e ∙ here p ps)

  same_head : (p q : Piece A) (ps qs : List (Piece A)) → p ∷ ps ≡ q ∷ qs → p ≡ q
  same_head p q ps qs e = cc

  head_by : (b c : Bool) (p q : Piece A) (ps qs : List (Piece A)) → nat_lt p.place q.place ≡ b → nat_lt q.place p.place ≡ c → AreInOrder (p ∷ ps) → AreInOrder (q ∷ qs) → ((n : ℕ) → at_place n (p ∷ ps) ≡ at_place n (q ∷ qs)) → p ≡ q
  head_by true c p q ps qs e f a d h = absurd (not_before p q ps qs (ltb-true p.place q.place e) d.0 (h p.place))
  head_by false true p q ps qs e f a d h = absurd (not_before q p qs ps (ltb-true q.place p.place f) a.0 (sym (h q.place)))
  head_by false false p q ps qs e f a d h =
      let one = ltb-false p.place q.place e in
      let other = ltb-false q.place p.place f in
      let same : p.place ≡ q.place = omega (arith, one, other) in
      same_head p q (at_place p.place ps) (at_place q.place qs)
      (sym (here p ps) ∙ h p.place ∙ ap (λ (n : ℕ). at_place n (q ∷ qs)) same ∙ here q qs)

  tail_by : (b : Bool) (n : ℕ) (p : Piece A) (ps qs : List (Piece A)) → (p.place == n) ≡ b → at_place n (p ∷ ps) ≡ at_place n (p ∷ qs) → at_place n ps ≡ at_place n qs
  tail_by true n p ps qs e h = let both : p ∷ at_place n ps ≡ p ∷ at_place n qs = rw e at h in cc
  tail_by false n p ps qs e h = rw e at h

  pub same_in_order : (ps qs : List (Piece A)) → AreInOrder ps → AreInOrder qs → ((n : ℕ) → at_place n ps ≡ at_place n qs) → ps ≡ qs
  same_in_order [] [] a b h = refl
  same_in_order [] (q ∷ qs) a b h = absurd (not_none q (at_place q.place qs) (h q.place ∙ here q qs))
  same_in_order (p ∷ ps) [] a b h = absurd (not_none p (at_place p.place ps) (sym (h p.place) ∙ here p ps))
  same_in_order (p ∷ ps) (q ∷ qs) a b h =
      let same : p ≡ q = head_by (nat_lt p.place q.place) (nat_lt q.place p.place) p q ps qs refl refl a b h in
      let g : (n : ℕ) → at_place n (p ∷ ps) ≡ at_place n (p ∷ qs) = (λ n. h n ∙ ap (λ (x : Piece A). at_place n (x ∷ qs)) (sym same)) in
      let rest : ps ≡ qs = same_in_order ps qs a.1 b.1 (λ n. tail_by (p.place == n) n p ps qs refl (g n)) in
      ap (λ (x : Piece A). x ∷ ps) same ∙ ap (λ (xs : List (Piece A)). q ∷ xs) rest

  -- pieces that are in order already
  pub by_place-in_order : (ps : List (Piece A)) → AreInOrder ps → by_place ps ≡ ps
  by_place-in_order ps a = same_in_order (by_place ps) ps (in_order-by_place ps) a (λ n. at-by_place n ps)

  pub same_by_place : (ps qs : List (Piece A)) → ((n : ℕ) → at_place n ps ≡ at_place n qs) → by_place ps ≡ by_place qs
  same_by_place ps qs h =
      same_in_order (by_place ps) (by_place qs) (in_order-by_place ps) (in_order-by_place qs) (λ n. at-by_place n ps ∙ h n ∙ sym (at-by_place n qs))
