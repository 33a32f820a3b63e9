-- The retained frames of the pages, grouped by segment, are those that the cleans of these segments copy; and the images made of them.
use Rattle.std.specs.Prelude.{◌≡◌, ◌≢◌, ◌⊎◌, ℕ, ◌-◌, ◌<◌, ◌≤◌, Bool, true, false, cond, ◌&&◌, nat_eq, nat_lt, List, [], ◌∷◌, ◌++◌, length, map, flat_map, take, drop, Vec, Option, Some, None}
use Rattle.std.proofs.Common.{refl, sym, ap, ◌∙◌, subst, inl, inr, arith, append_assoc, append-nil}
use Rattle.std.specs.List.{AllByRecursion}
use Rattle.std.specs.List.Sorted.{IsStrictlySortedBy}
use Rattle.std.specs.Map.{keys_of}
use Rattle.std.specs.Ordering.{nat_cmp}
use Rattle.std.proofs.lemmas.Bool.{eqb-true, lt-ltb}
use Rattle.std.proofs.lemmas.List.{map-append}
use Rattle.std.proofs.lemmas.List.Concat.{flat_map-append}
use Rattle.std.proofs.lemmas.List.Folds.{flat_map-map}
use Rattle.keys.specs.Bytes.{Bytes}
use Rattle.keys.specs.Limits.{first_bad_field}
use Rattle.index_page.proofs.ListLemmas.{all-append}
use Rattle.mapping.specs.Proper.{AreRisingPids}
use Rattle.frame_codec.specs.Frame.{Frame, bytes_of, is_frame}
use Rattle.frame_codec.specs.Reading.{read_frame}
use Rattle.frame_codec.specs.declared.format.Format.{Format}
use Rattle.frame_codec.specs.declared.skim.Skimmed.{Skimmed}
use Rattle.flush_log.specs.Images.{frames_in as frames_of_images, AreOfText}
use Rattle.flush_log.specs.Reading.{Found, is_at_tail}
use Rattle.recovery.specs.Gathered.{live_frames, wanted_of, IsKept, AreGathered}
use Rattle.recovery.specs.PageByLog.{is_base}
use Rattle.recovery.specs.Rebuild.{all_or_none}
use Rattle.recovery.specs.StoreOfDisk.{frames_in}
use Rattle.recovery.specs.declared.gather.Gathering.{Gathering}
use Rattle.recovery.specs.declared.gather.Kept.{Kept}
use Rattle.recovery.specs.declared.gather.Wanted.TheVariants.{Before}
use Rattle.recovery.proofs.KeptPages.{KeepEach, first_is, later_are, in-order, bytes-frames, live_frames-within, wanted-within}
use Rattle.recovery.proofs.ScanLemmas.{left-following, AreRead, read-none, read-more, read-all, read-broken, IsFrame}
use Rattle.recovery.proofs.TextLemmas.{turned}
use Rattle.cleaner.specs.Chosen.{image_in, some_frames, page_in, pages_in, held}
use Rattle.cleaner.specs.CleanText.{carried, clean_frames}

abbrev encoded : List Frame → List (List ℕ)
encoded fs = map (λ (f : Frame). bytes_of f) fs

-- ---- by segment

module _ (g : Format) where
  some-image : (bytes : Bytes) → flat_map (image_in g) (some_frames bytes) ≡ image_in g bytes
  some-image [] = refl
  some-image (b ∷ bytes) = append-nil (image_in g (b ∷ bytes))

  page_by : (b : Bool) (n : ℕ) (k : Kept) → nat_eq n k.segment ≡ b → flat_map (image_in g) (page_in n k) ≡ cond b (image_in g k.frames.items) []
  page_by true n k e = ap (λ (c : Bool). flat_map (image_in g) (cond c (some_frames k.frames.items) [])) e ∙ some-image k.frames.items
  page_by false n k e = ap (λ (c : Bool). flat_map (image_in g) (cond c (some_frames k.frames.items) [])) e

module _ (g : Format) (good : first_bad_field g.settings ≡ None) (limit n : ℕ) (below : n < limit) where
  none_by : (b : Bool) → cond b (encoded []) [] ≡ encoded []
  none_by true = refl
  none_by false = refl

  -- below the limit, the retained frames of a page in a segment are those that are copied
  carried_by : (b : Bool) (f : Found) (fs : List Found) → nat_eq f.segment n ≡ b → cond b (encoded (wanted_of (Before limit) (f ∷ fs))) [] ≡ encoded (carried n (f ∷ fs))
  carried_by true f fs e =
      let wanted : nat_lt f.segment limit ≡ true = ap (λ (m : ℕ). nat_lt m limit) (eqb-true f.segment n e) ∙ lt-ltb n limit below in
      ap (λ (c : Bool). encoded (cond (c && is_base f.frame.content) (frames_in (f ∷ fs)) [])) (wanted ∙ sym e)
  carried_by false f fs e = ap (λ (c : Bool). encoded (cond (c && is_base f.frame.content) (frames_in (f ∷ fs)) [])) (sym e)

  page_of : (k : Kept) (fs : List Found) → IsKept (Before limit) k fs → image_in g k.frames.items ≡ encoded (wanted_of (Before limit) fs) → flat_map (image_in g) (page_in n k) ≡ encoded (carried n fs)
  page_of k [] h image = page_by g (nat_eq n k.segment) n k refl ∙ ap (λ (fs : List (List ℕ)). cond (nat_eq n k.segment) fs []) image ∙ none_by (nat_eq n k.segment)
  page_of k (f ∷ fs) h image =
      let same : nat_eq n k.segment ≡ nat_eq f.segment n = ap (λ (m : ℕ). nat_eq n m) h.segment ∙ turned (nat_eq f.segment n) f.segment n refl in
      page_by g (nat_eq f.segment n) n k same ∙ ap (λ (fs : List (List ℕ)). cond (nat_eq f.segment n) fs []) image ∙ carried_by (nat_eq f.segment n) f fs refl

  module _ (found : List Found) (within : AllByRecursion (λ f. is_frame g f.frame ≡ true) found) where
    abbrev carried_of : ℕ → List Frame
    carried_of pid = carried n (live_frames pid found)

    page_text : (k : Kept) (pid : ℕ) → IsKept (Before limit) k (live_frames pid found) → flat_map (image_in g) (page_in n k) ≡ encoded (carried_of pid)
    page_text k pid h =
        page_of k (live_frames pid found) h
        (ap (λ (bs : List ℕ). image_in g bs) h.frames
        ∙ ap encoded (bytes-frames g good (wanted_of (Before limit) (live_frames pid found)) (wanted-within g (Before limit) (live_frames pid found) (live_frames-within g pid found within))))

    kept_text : (es : List (ℕ × Kept)) → AreRisingPids (keys_of es) → KeepEach (Before limit) found es → flat_map (image_in g) (pages_in n es) ≡ encoded (flat_map carried_of (keys_of es))
    kept_text [] r h = refl
    kept_text ((k, v) ∷ es) r h =
        flat_map-append (image_in g) (page_in n v) (pages_in n es)
        ∙ ap (λ (i : List (List ℕ)). i ++ flat_map (image_in g) (pages_in n es)) (page_text v k (first_is (Before limit) found k v es h))
        ∙ ap (λ (i : List (List ℕ)). encoded (carried_of k) ++ i) (kept_text es r.1 (later_are (Before limit) found k v es r h))
        ∙ sym (map-append (λ (f : Frame). bytes_of f) (carried_of k) (flat_map carried_of (keys_of es)))

-- the pages in a segment below the limit are those that a clean of that segment carries on
pub kept-text : (g : Format) (limit n : ℕ) (pages : Gathering) (found : List Found) → first_bad_field g.settings ≡ None → n < limit → IsStrictlySortedBy nat_cmp (keys_of pages.by_pid.entries) → AreGathered g (Before limit) pages found
    → flat_map (image_in g) (pages_in n pages.by_pid.entries) ≡ encoded (clean_frames n found)
kept-text g limit n pages found good below sorted h =
    let order = in-order (Before limit) pages.by_pid found sorted h.live.kept in
    kept_text g good limit n below found h.within pages.by_pid.entries order.rise order.each ∙ ap (λ (ns : List ℕ). encoded (flat_map (λ pid. carried n (live_frames pid found)) ns)) order.all

-- ---- one frame after the other

-- these bytes remain, and this is the image of the frames before them
pub record IsImageUpto (g : Format) (bytes : Bytes) (image : List Bytes) (rest : Bytes) : Type 0 where
  pub frames : List Frame
  pub read : AreRead g is_at_tail (length bytes) bytes frames rest
  pub of : image ≡ encoded frames

module _ (g : Format) (bytes : Bytes) where
  pub image-none : (image : List Bytes) → image ≡ [] → IsImageUpto g bytes image bytes
  image-none image none = record { frames = []; read = read-none g is_at_tail (length bytes) bytes (omega arith); of = none }

  pub image-more : (image now : List Bytes) (rest : Bytes) (k : Skimmed) (size : ℕ) → IsImageUpto g bytes image rest → is_at_tail rest ≡ false → IsFrame g rest k → size ≡ k.size → now ≡ image ++ take size rest ∷ []
      → IsImageUpto g bytes now (take (length rest - size) (drop size rest))
  image-more image now rest k size h more f same put = record {
    frames = h.frames ++ f.frame ∷ [];
    read = subst (λ (following : Bytes). AreRead g is_at_tail (length bytes) bytes (h.frames ++ f.frame ∷ []) following) (sym (left-following k.size rest) ∙ ap (λ (m : ℕ). take (length rest - m) (drop m rest)) (sym same))
        (read-more g is_at_tail (length bytes) bytes h.frames rest (drop k.size rest) f.frame h.read more f.read f.less);
    of = put ∙ ap (λ (i : List Bytes). i ++ take size rest ∷ []) h.of ∙ ap (λ (b : Bytes). encoded h.frames ++ b ∷ []) (ap (λ (m : ℕ). take m rest) same ∙ f.bytes)
        ∙ sym (map-append (λ (g : Frame). bytes_of g) h.frames (f.frame ∷ []));
  }

  pub image-all : (image : List Bytes) (rest : Bytes) → IsImageUpto g bytes image rest → is_at_tail rest ≡ true → image ≡ image_in g bytes
  image-all image rest h e = h.of ∙ sym (ap (λ r. encoded (all_or_none r)) (read-all g is_at_tail (length bytes) bytes h.frames rest h.read e))

  pub image-other : (image none : List Bytes) (rest : Bytes) → IsImageUpto g bytes image rest → is_at_tail rest ≡ false → read_frame g rest ≡ None → none ≡ [] → none ≡ image_in g bytes
  image-other image none rest h e other empty = empty ∙ sym (ap (λ r. encoded (all_or_none r)) (read-broken g is_at_tail (length bytes) bytes h.frames rest h.read e other))

-- ---- one page after the other

frames-append : (xs ys : List (List (List ℕ))) → frames_of_images (xs ++ ys) ≡ frames_of_images xs ++ frames_of_images ys
frames-append [] ys = refl
frames-append (x ∷ xs) ys = ap (λ (fs : List (List ℕ)). x ++ fs) (frames-append xs ys) ∙ sym (append_assoc x (frames_of_images xs) (frames_of_images ys))

module _ {A : Type 0} (g : Format) where
  abbrev frames_of : List (Vec ℕ A) → List (List ℕ)
  frames_of pages = flat_map (λ (p : Vec ℕ A). image_in g p.items) pages

  -- these pages remain, and these are the images of the frames of those before
  pub record AreChosen (images : List (List (List ℕ))) (left every : List (Vec ℕ A)) : Type 0 where
    pub frames : frames_of_images images ++ frames_of left ≡ frames_of every
    pub some : AllByRecursion (λ i. i ≢ []) images

  pub chosen-none : (images : List (List (List ℕ))) (left every : List (Vec ℕ A)) → images ≡ [] → left ≡ every → AreChosen images left every
  chosen-none images left every none whole =
      let e : AreChosen [] every every = record { frames = refl; some = tt } in
      subst (λ (es : List (Vec ℕ A)). AreChosen images es every) (sym whole) (subst (λ (is : List (List (List ℕ))). AreChosen is every every) (sym none) e)

  module _ (images : List (List (List ℕ))) (left every : List (Vec ℕ A)) (h : AreChosen images left every) where
    -- the next page has no frames
    pub next-none : (p : Vec ℕ A) (rest : List (Vec ℕ A)) (image : List (List ℕ)) → left ≡ p ∷ rest → image ≡ image_in g p.items → image ≡ [] → AreChosen images rest every
    next-none p rest image is made none = record {
      frames = ap (λ (i : List (List ℕ)). frames_of_images images ++ (i ++ frames_of rest)) (sym none ∙ made) ∙ ap (λ (ps : List (Vec ℕ A)). frames_of_images images ++ frames_of ps) (sym is) ∙ h.frames;
      some = h.some;
    }

    -- it has some
    pub next-some : (now : List (List (List ℕ))) (p : Vec ℕ A) (rest : List (Vec ℕ A)) (image : List (List ℕ)) → left ≡ p ∷ rest → image ≡ image_in g p.items → image ≢ [] → now ≡ images ++ image ∷ []
        → AreChosen now rest every
    next-some now p rest image is made some put = record {
      frames = ap (λ (is : List (List (List ℕ))). frames_of_images is ++ frames_of rest) put
          ∙ ap (λ (fs : List (List ℕ)). fs ++ frames_of rest) (frames-append images (image ∷ []) ∙ ap (λ (i : List (List ℕ)). frames_of_images images ++ i) (append-nil image))
          ∙ append_assoc (frames_of_images images) image (frames_of rest)
          ∙ ap (λ (i : List (List ℕ)). frames_of_images images ++ (i ++ frames_of rest)) made
          ∙ ap (λ (ps : List (Vec ℕ A)). frames_of_images images ++ frames_of ps) (sym is) ∙ h.frames;
      some = subst (λ (is : List (List (List ℕ))). AllByRecursion (λ i. i ≢ []) is) (sym put) (all-append (λ i. i ≢ []) images (image ∷ []) h.some (some, tt));
    }

    -- all are chosen
    pub all-chosen : left ≡ [] → frames_of_images images ≡ frames_of every
    all-chosen none = sym (append-nil (frames_of_images images)) ∙ ap (λ (ps : List (Vec ℕ A)). frames_of_images images ++ frames_of ps) (sym none) ∙ h.frames

-- the frames of the pages that are held
pub held-frames : {A B : Type 0} (g : Format) (o : Option (Vec (Vec ℕ A) B)) (pages : Vec (Vec ℕ A) B) → o ≡ Some pages → flat_map (λ (p : Vec ℕ A). image_in g p.items) pages.items ≡ flat_map (image_in g) (held o)
held-frames {A} g o pages is = sym (flat_map-map (image_in g) (λ (p : Vec ℕ A). p.items) pages.items) ∙ ap (λ q. flat_map (image_in g) (held q)) (sym is)

pub none-frames : {A B : Type 0} (g : Format) (o : Option (Vec (Vec ℕ A) B)) (images : List (List (List ℕ))) → o ≡ None → images ≡ [] → frames_of_images images ≡ flat_map (image_in g) (held o)
none-frames g o images is none = ap frames_of_images none ∙ ap (λ q. flat_map (image_in g) (held q)) (sym is)

-- none of the images is empty: there are no images, or there is a frame
pub some-text : (images : List (List (List ℕ))) (text : List Frame) → AreOfText images text → AllByRecursion (λ i. i ≢ []) images → (images ≡ []) ⊎ (1 ≤ length text)
some-text [] text of some = inl refl
some-text ([] ∷ images) text of some = absurd (some.0 refl)
some-text ((f ∷ fs) ∷ images) [] of some = absurd (cc)
some-text ((f ∷ fs) ∷ images) (g ∷ gs) of some = inr (omega arith)

pub nil_by : (image : List (List ℕ)) → length image ≡ 0 → image ≡ []
nil_by [] e = refl
nil_by (b ∷ image) e = absurd (omega (arith, e))
