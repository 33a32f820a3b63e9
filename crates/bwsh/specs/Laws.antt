-- What the laws in `src/laws.rt` say of the output of an order, and of two runs of the same orders.
use Rattle.std.specs.Prelude.{◌≡◌, Bool, List, ◌∷◌, ◌++◌}
use Rattle.keys.specs.Bytes.{Bytes, Pairs}
use Rattle.keys.specs.declared.settings.Settings.{Settings}
use Rattle.mapping.specs.Tree.{Store}
use Rattle.bwsh.specs.declared.order.Order.{Order}
use Rattle.bwsh.specs.Session.{Reads, Seen, accepted, after_order, answer_lines, answered, later, orders_end, printed}

-- if no order is refused, this order prints this text in front of the output of the later orders, and changes neither the store nor the map
abbrev pub PrintsOnly : Order → (Settings → Store → Pairs Bytes → Bytes) → Type 0
PrintsOnly order text =
    (settings : Settings) (st : Store) (shown : Reads) (m : Pairs Bytes) (rest : List Order) → printed settings st shown m (order ∷ rest)
    ≡ text settings st m ++ printed settings st (later shown) m rest

-- the same for an order that may change the store, but no pair: the text depends on the store before it, on the events at it, and on the store after it
abbrev pub PrintsAfter : Order → (Store → Seen → Store → Bytes) → Type 0
PrintsAfter order text =
    (settings : Settings) (st : Store) (shown : Reads) (m : Pairs Bytes) (rest : List Order) → printed settings st shown m (order ∷ rest)
    ≡ text st (shown 0) (after_order settings st (shown 0) order).0 ++ printed settings (after_order settings st (shown 0) order).0 (later shown) m rest

-- two runs of these orders on this store, each with its own events, have the same answers, accept the same orders and end in the same way
pub record AreAnsweredAlike (settings : Settings) (st : Store) (shown other : Reads) (orders : List Order) : Type 0 where
  -- the answers to the orders if none is refused
  pub lines : (m : Pairs Bytes) → answer_lines settings st shown m orders ≡ answer_lines settings st other m orders
  -- the output with refusals, in a session that goes on after a refusal or ends at the first one
  pub output : (on : Bool) (m : Pairs Bytes) → answered on settings st shown m orders ≡ answered on settings st other m orders
  -- the orders before the first one that is refused
  pub accepts : accepted settings st shown orders ≡ accepted settings st other orders
  -- the end of a session that goes on after a refusal or ends at the first one
  pub end : (on : Bool) → orders_end on settings st shown orders ≡ orders_end on settings st other orders
