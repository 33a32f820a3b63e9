use Rattle.std.proofs.Common.{ℕ, refl}
use Rattle.keys.specs.Bytes.{Bytes, Pairs, Changes, Separators}
use Rattle.keys.specs.Cells.{value_cell, pid_cell}
use Rattle.frame_codec.specs.declared.format.KeyEncoding.TheVariants.{Whole, PrefixCompressed}
use Rattle.frame_codec.specs.declared.skim.FrameKind.TheVariants as kinds
use Rattle.frame_codec.specs.Frame.{full, delta}
use Rattle.frame_codec.specs.Frame.Content.{FullLeaf, DeltaLeaf, FullIndex, DeltaIndex}
use Rattle.frame_codec.proofs.SkimLemmas.{made-kind}
use Rattle.frame_codec.proofs.skim.skim_content.Goals as goal

pub returns-in-1 : goal.returns-in-1
returns-in-1 c = rw c.in-1.is (made-kind c.args.format.now (λ (p : Bytes × Pairs Bytes). FullLeaf Whole p.0 p.1) kinds.FullLeaf (λ y. refl) ((full Whole value_cell).read c.args.bytes.now) c.skim_known-rest.result c.with_kind.result c.skim_known-rest.ensures c.with_kind.ensures)

pub returns-in-2 : goal.returns-in-2
returns-in-2 c = rw c.in-2.is (made-kind c.args.format.now (λ (run : Changes Bytes). DeltaLeaf run) kinds.DeltaLeaf (λ y. refl) ((delta value_cell).read c.args.bytes.now) c.skim_run-rest.result c.with_kind-in-2.result c.skim_run-rest.ensures c.with_kind-in-2.ensures)

pub returns-in-3 : goal.returns-in-3
returns-in-3 c = rw c.in-3.is (made-kind c.args.format.now (λ (p : Bytes × Separators). FullIndex Whole p.0 p.1) kinds.FullIndex (λ y. refl) ((full Whole pid_cell).read c.args.bytes.now) c.skim_known-rest-in-3.result c.with_kind-in-3.result c.skim_known-rest-in-3.ensures c.with_kind-in-3.ensures)

pub returns-in-4 : goal.returns-in-4
returns-in-4 c = rw c.in-4.is (made-kind c.args.format.now (λ (run : Changes ℕ). DeltaIndex run) kinds.DeltaIndex (λ y. refl) ((delta pid_cell).read c.args.bytes.now) c.skim_run-rest-in-4.result c.with_kind-in-4.result c.skim_run-rest-in-4.ensures c.with_kind-in-4.ensures)

pub returns-in-6 : goal.returns-in-6
returns-in-6 c = rw c.in-6.is (made-kind c.args.format.now (λ (p : Bytes × Pairs Bytes). FullLeaf PrefixCompressed p.0 p.1) kinds.FullLeaf (λ y. refl) ((full PrefixCompressed value_cell).read c.args.bytes.now) c.skim_known-rest-in-6.result c.with_kind-in-6.result c.skim_known-rest-in-6.ensures c.with_kind-in-6.ensures)

pub returns-in-7 : goal.returns-in-7
returns-in-7 c = rw c.in-7.is (made-kind c.args.format.now (λ (p : Bytes × Separators). FullIndex PrefixCompressed p.0 p.1) kinds.FullIndex (λ y. refl) ((full PrefixCompressed pid_cell).read c.args.bytes.now) c.skim_known-rest-in-7.result c.with_kind-in-7.result c.skim_known-rest-in-7.ensures c.with_kind-in-7.ensures)
