use Rattle.std.proofs.Common.{◌≡◌, ◌-◌, ◌+◌, ◌^◌, ◌∙◌, min, length, drop, take, ap, inl, refl, sym, subst, IsTrue, List, ℕ, arith}
use Rattle.std.proofs.lemmas.Result.{err_from_is_err_and}
use Rattle.flush_log.specs.Disk.{LeavesOnly}
use Rattle.flush_log.specs.Overlay.{overlay}
use Rattle.flush_log.proofs.SameLemmas.{leaves_the_same, left_after, settled_still}
use Rattle.recovery.proofs.ReadBytes.{kept_then}
use Rattle.engine.specs.Hidden.{exchanged, IsCleared, IsLeftHiding}
use Rattle.engine.proofs.HiddenLemmas.{hidden_is, on_ok}
use Rattle.engine.proofs.hidden_disk.write_hidden.Goals as goal

pub returns-in_err-first : goal.returns-in_err-first
returns-in_err-first g c =
    let old = g.D.Disk.view c.args.disk.now in
    let p = err_from_is_err_and c.from_residual.result c.from_residual.ensures.1 in
    rw p.1 (record {
      kept = c.first_byte.ensures.kept;
      failed = c.in_err-first.ensures.failed;
      written = λ _. tt;
      is_synced = λ _. tt;
      crash = λ is_synced. leaves_the_same old (g.D.Disk.view c.first_byte.new.disk) (IsLeftHiding old.seen) (g.met.D.Disk.lawful c.args.disk.now is_synced.honest) (c.first_byte.ensures.same is_synced.honest) is_synced (inl refl);
    })

pub returns-in_err-clear_first : goal.returns-in_err-clear_first
returns-in_err-clear_first g c =
    let old = g.D.Disk.view c.args.disk.now in
    let mid = g.D.Disk.view c.first_byte.new.disk in
    let new = g.D.Disk.view c.clear_first.new.disk in
    let kept = c.first_byte.ensures.kept in
    let p = err_from_is_err_and c.from_residual-in_err-clear_first.result c.from_residual-in_err-clear_first.ensures.1 in
    rw p.1 (record {
      kept = kept_then old mid new kept c.clear_first.ensures.kept;
      failed = c.in_err-clear_first.ensures.failed ∙ ap (λ (n : ℕ). min (n + 1) (2 ^ 64 - 1)) c.in_ok-first.ensures.failed;
      written = λ _. tt;
      is_synced = λ _. tt;
      crash = λ is_synced. (
          let same = c.first_byte.ensures.same is_synced.honest in
          left_after old mid new (IsLeftHiding old.seen) same
          (subst (λ (f : List ℕ). LeavesOnly mid new (IsLeftHiding f)) same.seen (c.clear_first.ensures.crash (settled_still old mid kept same is_synced))));
    })

pub returns-clause-written : goal.returns-clause-written
returns-clause-written g c honest =
    let old = g.D.Disk.view c.args.disk.now in
    let mid = g.D.Disk.view c.clear_first.new.disk in
    let new = g.D.Disk.view c.write_through.new.disk in
    let bytes = c.args.bytes.now in
    let read = c.first_byte.ensures.same honest in
    let still = subst IsTrue (sym c.first_byte.ensures.kept.honest) honest in
    let after = subst IsTrue (sym c.clear_first.ensures.kept.honest) still in
    let whole = (g.met.D.Disk.lawful c.args.disk.now honest).whole in
    on_ok c.write_through.result (new.seen ≡ overlay mid.seen 1 (take (length bytes - 1) (drop 1 bytes))) (exchanged new.seen ≡ overlay old.seen 0 bytes)
    (λ is. ap (λ (f : List ℕ). exchanged f) is ∙ hidden_is old.seen mid.seen bytes c.requires.some (omega (arith, whole, c.requires.room)) c.requires.first
    (subst (λ (f : List ℕ). IsCleared f mid.seen) read.seen (c.in_ok-clear_first.ensures.cleared still)))
    (c.write_through.ensures.written after)
