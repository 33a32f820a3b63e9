use Rattle.std.proofs.Common.{◌≡◌, true, rules, ◌∙◌, refl}
use Rattle.std.proofs.lemmas.Fn.{always_returns_same}
use Rattle.keys.specs.Order.{order}
use Rattle.delta_chain.specs.Building.{goes_last}
use Rattle.delta_chain.proofs.Alone.{after_alone, found_alone, before_alone}
use Rattle.delta_chain.proofs.Setting.{searched, above_all}
use Rattle.delta_chain.proofs.entries.Entries.search.Goals as goal

pub returns-in-Less : goal.returns-in-Less
returns-in-Less g c =
    rw (← c.self.view_is, c.in-One.is) (after_alone c.in-One.entry c.key_ref.result c.args.key.now c.args.key.now c.key_ref.ensures refl c.in-Less.ensures)

pub returns-in-Equal : goal.returns-in-Equal
returns-in-Equal g c =
    rw (← c.self.view_is, c.in-One.is) (found_alone c.in-One.entry c.key_ref.result c.args.key.now c.args.key.now c.key_ref.ensures refl c.in-Equal.ensures)

pub returns-in-Greater : goal.returns-in-Greater
returns-in-Greater g c =
    rw (← c.self.view_is, c.in-One.is) (before_alone c.in-One.entry c.key_ref.result c.args.key.now c.args.key.now c.key_ref.ensures refl c.in-Greater.ensures)

pub returns-then-goes_last : goal.returns-then-goes_last
returns-then-goes_last g c =
    let rising = rw c.in-Many.is at c.self.invariant in
    let above : goes_last c.args.key.now c.in-Many.list.items ≡ true = cc in
    rw (← c.self.view_is, c.in-Many.is) (above_all c.in-Many.list.items c.args.key.now c.len.result rising above (c.len.ensures ∙ c.in-Many.list.ok.0))

-- the closure returns how an entry's key compares to the key
pub returns-else-goes_last : goal.returns-else-goes_last
returns-else-goes_last g c =
    let facts = c.binary_search_by.ensures in
    let rising = rw c.in-Many.is at c.self.invariant in
    let halves = facts.position (λ e. order e.0 c.args.key.now) (always_returns_same _ _ _ (λ a r f' called. search rules)) in
    rw (← c.self.view_is, c.in-Many.is, ← c.deref-in-Many.ensures.value) (searched _ _ _ (rw c.deref-in-Many.ensures.value rising) facts.bound halves)
