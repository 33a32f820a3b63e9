-- Undoing `take_base`: the page whose cells were moved into a base.
use Rattle.std.specs.Prelude.{[], ◌∷◌}
use Rattle.keys.specs.Bytes.{Pairs}
use Rattle.delta_chain.specs.Exchange.{exchanged}
use Rattle.delta_chain.specs.Layers.{Layers}

-- a page with each of these cells replacing the cell that it has at the key, starting with the last cell
abbrev pub put_back : {V : Type 0} → Layers V → Pairs V → Layers V
put_back p [] = p
put_back p (e ∷ es) = exchanged (put_back p es) e.0 e.1
