use Rattle.std.proofs.Common.{◌≡◌, List, length, Bool, ℕ, cond, Option, None, Some, sym, ap, subst, ◌∙◌}
use Rattle.frame_codec.specs.Frame.{bytes_of}
use Rattle.frame_codec.specs.Skimmed.{kind_of}
use Rattle.frame_codec.specs.declared.skim.FrameKind.{FrameKind}
use Rattle.std.specs.BTreeMap.{get}
use Rattle.std.specs.Ordering.{nat_cmp, is_eq}
use Rattle.recovery.specs.Gathered.{live_frames, state_after, segment_after, size_after, kept_with, IsKept, AreKept, is_wanted_in}
use Rattle.recovery.specs.Scan.{HeldFrame}
use Rattle.recovery.specs.declared.gather.Kept.{Kept}
use Rattle.recovery.proofs.KeptLemmas.{kept-more, kept-none, kept-some, none-kept, pages-more, wanted-same}
use Rattle.recovery.proofs.gather.Gathering.add.Goals as goal
use Rattle.recovery.proofs.gather.Gathering.add.Goals.{in-Some, in-None}

pub returns : goal.returns
returns c w found f skim live =
    let old = c.args.self.now.by_pid in
    let own = f.frame.pid in
    let segment = ap (λ (x : HeldFrame). x.segment) skim in
    let are : AreKept w old found = live.kept in
    let pid : c.args.frame.pid ≡ own = sym (ap (λ (x : HeldFrame). x.pid) skim) in
    let kind : c.args.frame.kind ≡ kind_of f.frame.content = sym (ap (λ (x : HeldFrame). x.kind) skim) in
    let frame : c.args.frame.bytes.now ≡ bytes_of f.frame = sym (ap (λ (x : HeldFrame). x.bytes) skim) in
    let value : (o : Option Kept) → c.remove.result ≡ o → get nat_cmp old own ≡ o = λ o e. ap (λ (n : ℕ). get nat_cmp old n) (sym pid) ∙ sym c.remove.ensures.value ∙ e in
    let had : IsKept w c.match-remove.before (live_frames own found) = elim c.match-remove.branch [
      | in-Some v ↦ subst (λ (k : Kept). IsKept w k (live_frames own found)) (sym v.before-is) (kept-some w (get nat_cmp old own) _ (live_frames own found) (value _ v.in-Some.is) (are.each own))
      | in-None v ↦ kept-none w c.match-remove.before (live_frames own found) (ap (λ (k : Kept). k.state) v.before-is) (ap (λ (k : Kept). k.segment) v.before-is) (ap (λ (k : Kept). k.size) v.before-is)
          (ap (λ (k : Kept). k.frames.items) v.before-is ∙ v.new.ensures.items) (none-kept w (get nat_cmp old own) (live_frames own found) (value _ v.in-None.is) (are.each own))
    ] in
    let out : (n : ℕ) → get nat_cmp c.remove.new.self n ≡ cond (is_eq (nat_cmp own n)) None (get nat_cmp old n) = rw (sym pid) c.remove.ensures.updates.0 in
    let kept : Kept = record { state = c.state_after.result; segment = c.segment_after.result; size = c.size_after.result; frames = c.in_ok-frames_with.field-0 } in
    let into : (n : ℕ) → get nat_cmp c.insert.new.self n ≡ cond (is_eq (nat_cmp own n)) (Some kept) (get nat_cmp c.remove.new.self n) = rw (sym pid) c.in_ok-insert.ensures.updates.0 in
    let is_wanted : c.is_wanted-is_wanted.result ≡ is_wanted_in w f.segment =
    wanted-same w c.args.self.now.wanted f.segment c.args.segment c.is_wanted-is_wanted.result live.wanted (sym segment) c.is_wanted-is_wanted.ensures in
    let now = kept-more w c.match-remove.before kept (live_frames own found) f had (c.state_after.ensures ∙ ap (λ (k : FrameKind). state_after c.match-remove.before.state k) kind)
    (c.segment_after.ensures ∙ ap (λ (k : FrameKind). segment_after c.match-remove.before.segment k c.args.segment) kind
    ∙ ap (λ (n : ℕ). segment_after c.match-remove.before.segment (kind_of f.frame.content) n) (sym segment))
    (c.size_after.ensures ∙ ap (λ (k : FrameKind). size_after c.match-remove.before.size k (length c.args.frame.bytes.now)) kind
    ∙ ap (λ (n : ℕ). size_after c.match-remove.before.size (kind_of f.frame.content) n) (ap (λ (bytes : List ℕ). length bytes) frame))
    (c.in_ok-frames_with.ensures
    ∙ ap (λ (k : FrameKind). kept_with c.match-remove.before.frames.items k c.is_wanted-is_wanted.result c.args.frame.bytes.now) kind
    ∙ ap (λ (b : Bool). kept_with c.match-remove.before.frames.items (kind_of f.frame.content) b c.args.frame.bytes.now) is_wanted
    ∙ ap (λ (bytes : List ℕ). kept_with c.match-remove.before.frames.items (kind_of f.frame.content) (is_wanted_in w f.segment) bytes) frame) in
    record {
      wanted = live.wanted;
      kept = pages-more w old c.remove.new.self c.insert.new.self f kept out into found are now;
    }
