use Rattle.std.proofs.Common.{◌≡◌, ℕ, length, sym, ap, ◌∙◌, arith}
use Rattle.mapping.specs.Levels.{all_pids, levels_of}
use Rattle.mapping.specs.TreeInMemory.{tree_of}
use Rattle.verify.specs.declared.report.Report.{Report}
use Rattle.engine.proofs.PageCounts.{page_count}
use Rattle.engine.proofs.store.Store.report.Goals as goal

pub returns : goal.returns
returns g c = rw (← c.self.view_is) (
    let t = tree_of c.self.inside.tree in
    let pages : c.count_pages.result ≡ length t.pages = omega (arith, c.count_pages.ensures, c.most_pages-most.ensures) in
    let all : ℕ = length (all_pids (levels_of t).level (levels_of t).above) in
    let report_of : ℕ → ℕ → ℕ → Report = λ pages height pairs. record { pages = pages; height = height; pairs = pairs } in
    ap (λ (n : ℕ). report_of n c.height.result c.self.inside.pairs) (c.from.ensures ∙ pages ∙ sym (page_count c.self.inside.settings t c.self.invariant.sound.is.proper))
    ∙ ap (λ (n : ℕ). report_of all n c.self.inside.pairs) c.height.ensures
    ∙ ap (λ (n : ℕ). report_of all t.height n) c.self.invariant.counted)
