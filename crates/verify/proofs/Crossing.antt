-- The captures of the closure that threads share on a level: the tree, and the places that it visits.
use mathlib.Core.List.{List, [], ◌∷◌}
use mir.Syntax.{Sym}
use denote.RattleType.{RattleType}
use denote.Builtin.{One}
use denote.Ref.{NamedLft}
use denote.Struct.Field.{shr_ref_field}
use denote.Struct.Tuple.{TupleAt, type_at}
use denote.Struct.Declared.{shape}
use denote.Param.Send.{IsSend, IsSync, recorded_send, recorded_sync, struct_send, struct_sync, sendable}
use Rattle.std.specs.contracts.alloc.Global as Global
use Rattle.std.specs.contracts.impls.GlobalAllocator.TheImpl.{ghosts}
use Rattle.std.proofs.Crossing as heap
use Rattle.rayon.specs.contracts.iter.map.Map as Map
use Rattle.rayon.specs.contracts.slice.Iter as Iter
use Rattle.rayon.proofs.iter.map.Map.TheSendSync as map
use Rattle.rayon.proofs.slice.Iter.TheSendSync as iter
use Rattle.keys.specs.contracts.settings.Settings as Settings
use Rattle.mapping.specs.contracts.tree.Tree as Tree
use Rattle.mapping.proofs.Crossing.{Tree-sync}
use Rattle.verify.specs.contracts.look.Level as Level
use Rattle.verify.specs.contracts.place.Place as Place

lent_send : (ℓ : NamedLft) (T : RattleType) (one : One T.mir) → IsSync T → IsSend (shr_ref_field ℓ T one).row
lent_send ℓ T one s = search sendable

lent_sync : (ℓ : NamedLft) (T : RattleType) (one : One T.mir) → IsSync T → IsSync (shr_ref_field ℓ T one).row
lent_sync ℓ T one s = search sendable

tree_sync : IsSync (Tree.the_row Global.the_row ghosts)
tree_sync = Tree-sync Global.the_row ghosts heap.sync

settings_sync : IsSync Settings.the_row
settings_sync = search sendable depth 20

level_sync : IsSync Level.the_row
level_sync = search sendable depth 20

place_sync : (κ : NamedLft) → IsSync (Place.the_row κ)
place_sync κ = search sendable depth 20

module _ (ν : Sym) (ℓ ℓ' ℓ'' ℓ₃ : NamedLft) where
  -- what the closure lends
  abbrev captures : List RattleType
  captures =
      (shr_ref_field ℓ Global.the_row tt).row
      ∷ (shr_ref_field ℓ' (Tree.the_row Global.the_row ghosts) tt).row
      ∷ (shr_ref_field ℓ'' Settings.the_row tt).row
      ∷ (shr_ref_field ℓ₃ Level.the_row tt).row
      ∷ []

  pub closure-send : IsSend (TupleAt ν captures)
  closure-send = recorded_send _ _ _ (type_at ν captures).to_one (struct_send (shape (type_at ν captures))
      (lent_send ℓ _ tt heap.sync, (lent_send ℓ' _ tt tree_sync, (lent_send ℓ'' _ tt settings_sync, (lent_send ℓ₃ _ tt level_sync, tt)))))

  pub closure-sync : IsSync (TupleAt ν captures)
  closure-sync = recorded_sync _ _ _ (type_at ν captures).to_one (struct_sync (shape (type_at ν captures))
      (lent_sync ℓ _ tt heap.sync, (lent_sync ℓ' _ tt tree_sync, (lent_sync ℓ'' _ tt settings_sync, (lent_sync ℓ₃ _ tt level_sync, tt)))))

  pub looks-send : (κ κ' : NamedLft) → IsSend (Map.the_row (Iter.the_row κ (Place.the_row κ')) (TupleAt ν captures))
  looks-send κ κ' = map.the_send _ _ (iter.the_send κ _ (place_sync κ')) closure-send
