-- The whole output, in terms of the commands.
use Rattle.std.proofs.Common.{◌≡◌, ◌-◌, ℕ, List, [], ◌∷◌, ◌++◌, map, Option, Some, None, refl, sym, ap, append_assoc, ◌∙◌}
use Rattle.std.specs.Prelude.{take}
use Rattle.std.specs.List.{All, AllByRecursion, flat_map}
use Rattle.std.specs.declared.alloc.Global.{Global}
use Rattle.std.proofs.lemmas.Grind.{flat_map-append}
use Rattle.std.proofs.lemmas.List.Elements.{recursion_from_All}
use Rattle.keys.proofs.RunLemmas.{replies_to-append}
use Rattle.keys.specs.Lists.{flat}
use Rattle.keys.specs.Step.{replies_to, map_after_all}
use Rattle.keys.specs.declared.command.Command.{Command}
use Rattle.keys.specs.declared.command.Reply.{Reply}
use Rattle.keys.specs.declared.fault.Fault.{Fault}
use Rattle.keys.specs.declared.settings.Settings.{Settings}
use Rattle.mapping.specs.Tree.{Store}
use Rattle.scan.specs.Back.{rows_back}
use Rattle.scan.specs.Prefix.{with_prefix}
use Rattle.verify.specs.Report.{report}
use Rattle.engine.specs.Tidied.{counted_pages}
use Rattle.bwsh.specs.declared.line.Line.{Line}
use Rattle.bwsh.specs.declared.line.Why.{Why}
use Rattle.bwsh.specs.declared.order.Order.{Order}
use Rattle.bwsh.specs.declared.order.Order.TheVariants.{Batch, BadLine, Flush, Clean, Upgrade, Verify, Numbers, Stat, Copy, Tidy, Back, Prefix, Help}
use Rattle.bwsh.specs.BatchFile.{orders_of, commands_of, commands_of_lines, IsBatch, IsForBatches}
use Rattle.bwsh.specs.Session.{Reads, Stored, later, after_order, answer_lines, bad_line, front_lines, left_unless, numbers_of, printed}
use Rattle.bwsh.specs.Shown.{help_lines, shown_reply, shown_rows, shown_flushed, shown_cleaned, shown_upgraded, shown_report, shown_numbers, shown_settings, shown_tidied, shown_copied}
use Rattle.bwsh.proofs.OrderLemmas.{commands-orders_of, batches-orders_of}
use Rattle.bwsh.proofs.Prints.{flat-append, flat-map}

pub printed-batch : (settings : Settings) (st : Store) (shown : Reads) (m : List (List ℕ × List ℕ)) (commands : List (Command Global)) (rest : List Order)
    → printed settings st shown m (Batch commands ∷ rest)
    ≡ flat_map shown_reply (replies_to m commands) ++ printed settings (after_order settings st (shown 0) (Batch commands)).0 (later shown) (map_after_all m commands) rest
printed-batch settings st shown m commands rest =
    let then : Store = (after_order settings st (shown 0) (Batch commands)).0 in
    flat-append (map shown_reply (replies_to m commands)) (answer_lines settings then (later shown) (map_after_all m commands) rest)
    ∙ ap (λ (l : List ℕ). l ++ printed settings then (later shown) (map_after_all m commands) rest) (flat-map shown_reply (replies_to m commands))

pub printed-flush : (settings : Settings) (st : Store) (shown : Reads) (m : List (List ℕ × List ℕ)) (rest : List Order)
    → printed settings st shown m (Flush ∷ rest)
    ≡ flat (front_lines st (shown 0) Flush)
    ++ (shown_flushed (after_order settings st (shown 0) Flush).0.sequence ++ printed settings (after_order settings st (shown 0) Flush).0 (later shown) m rest)
printed-flush settings st shown m rest =
    let now : Store = (after_order settings st (shown 0) Flush).0 in
    let front : List (List ℕ) = front_lines st (shown 0) Flush in
    let own : List ℕ = shown_flushed now.sequence in
    let further : List (List ℕ) = answer_lines settings now (later shown) m rest in
    ap (λ (l : List (List ℕ)). flat l) (append_assoc front (own ∷ []) further) ∙ flat-append front (own ∷ further)

pub printed-clean : (settings : Settings) (st : Store) (shown : Reads) (m : List (List ℕ × List ℕ)) (rest : List Order)
    → printed settings st shown m (Clean ∷ rest)
    ≡ shown_cleaned (after_order settings st (shown 0) Clean).0.head ++ printed settings (after_order settings st (shown 0) Clean).0 (later shown) m rest
printed-clean settings st shown m rest = refl

pub printed-upgrade : (settings : Settings) (st : Store) (shown : Reads) (m : List (List ℕ × List ℕ)) (rest : List Order)
    → printed settings st shown m (Upgrade ∷ rest)
    ≡ shown_upgraded (after_order settings st (shown 0) Upgrade).0.sequence ++ printed settings (after_order settings st (shown 0) Upgrade).0 (later shown) m rest
printed-upgrade settings st shown m rest = refl

-- an order that is no step does not change the store, whether it fails or not
unmoved : (fails : Option Fault) (at : Stored) → left_unless fails at at ≡ at
unmoved None at = refl
unmoved (Some fault) at = refl

pub printed-verify : (settings : Settings) (st : Store) (shown : Reads) (m : List (List ℕ × List ℕ)) (rest : List Order)
    → printed settings st shown m (Verify ∷ rest) ≡ shown_report (report st.tree) ++ printed settings st (later shown) m rest
unfolding after_order
printed-verify settings st shown m rest =
    ap (λ (at : Stored). shown_report (report st.tree) ++ printed settings at.0 (later shown) m rest) (unmoved (shown 0).fails (st, (shown 0).bytes))

pub printed-numbers : (settings : Settings) (st : Store) (shown : Reads) (m : List (List ℕ × List ℕ)) (rest : List Order)
    → printed settings st shown m (Numbers ∷ rest) ≡ shown_numbers (numbers_of settings st) ++ printed settings st (later shown) m rest
unfolding after_order
printed-numbers settings st shown m rest =
    ap (λ (at : Stored). shown_numbers (numbers_of settings st) ++ printed settings at.0 (later shown) m rest) (unmoved (shown 0).fails (st, (shown 0).bytes))

pub printed-bad_line : (settings : Settings) (st : Store) (shown : Reads) (m : List (List ℕ × List ℕ)) (line : ℕ) (why : Why) (rest : List Order)
    → printed settings st shown m (BadLine line why ∷ rest) ≡ bad_line line why ++ printed settings st (later shown) m rest
unfolding after_order
printed-bad_line settings st shown m line why rest =
    ap (λ (at : Stored). bad_line line why ++ printed settings at.0 (later shown) m rest) (unmoved (shown 0).fails (st, (shown 0).bytes))

pub printed-stat : (settings : Settings) (st : Store) (shown : Reads) (m : List (List ℕ × List ℕ)) (rest : List Order)
    → printed settings st shown m (Stat ∷ rest) ≡ shown_numbers (numbers_of settings st) ++ (shown_settings settings ++ printed settings st (later shown) m rest)
unfolding after_order
printed-stat settings st shown m rest =
    ap (λ (at : Stored). shown_numbers (numbers_of settings st) ++ (shown_settings settings ++ printed settings at.0 (later shown) m rest)) (unmoved (shown 0).fails (st, (shown 0).bytes))

pub printed-copy : (settings : Settings) (st : Store) (shown : Reads) (m : List (List ℕ × List ℕ)) (path : List ℕ) (segments : Option ℕ) (rest : List Order)
    → printed settings st shown m (Copy path segments ∷ rest) ≡ shown_copied (report st.tree).pairs ++ printed settings st (later shown) m rest
unfolding after_order
printed-copy settings st shown m path segments rest =
    ap (λ (at : Stored). shown_copied (report st.tree).pairs ++ printed settings at.0 (later shown) m rest) (unmoved (shown 0).fails (st, (shown 0).bytes))

pub printed-back : (settings : Settings) (st : Store) (shown : Reads) (m : List (List ℕ × List ℕ)) (lo : List ℕ) (hi : Option (List ℕ)) (limit : ℕ) (rest : List Order)
    → printed settings st shown m (Back lo hi limit ∷ rest) ≡ shown_rows (rows_back lo hi limit m) ++ printed settings st (later shown) m rest
unfolding after_order
printed-back settings st shown m lo hi limit rest =
    ap (λ (at : Stored). shown_rows (rows_back lo hi limit m) ++ printed settings at.0 (later shown) m rest) (unmoved (shown 0).fails (st, (shown 0).bytes))

pub printed-prefix : (settings : Settings) (st : Store) (shown : Reads) (m : List (List ℕ × List ℕ)) (bytes : List ℕ) (limit : ℕ) (rest : List Order)
    → printed settings st shown m (Prefix bytes limit ∷ rest) ≡ shown_rows (take limit (with_prefix bytes m)) ++ printed settings st (later shown) m rest
unfolding after_order
printed-prefix settings st shown m bytes limit rest =
    ap (λ (at : Stored). shown_rows (take limit (with_prefix bytes m)) ++ printed settings at.0 (later shown) m rest) (unmoved (shown 0).fails (st, (shown 0).bytes))

pub printed-help : (settings : Settings) (st : Store) (shown : Reads) (m : List (List ℕ × List ℕ)) (rest : List Order)
    → printed settings st shown m (Help ∷ rest) ≡ help_lines ++ printed settings st (later shown) m rest
unfolding after_order
printed-help settings st shown m rest =
    ap (λ (at : Stored). help_lines ++ printed settings at.0 (later shown) m rest) (unmoved (shown 0).fails (st, (shown 0).bytes))

pub printed-tidy : (settings : Settings) (st : Store) (shown : Reads) (m : List (List ℕ × List ℕ)) (most : ℕ) (rest : List Order)
    → printed settings st shown m (Tidy most ∷ rest)
    ≡ shown_tidied (counted_pages st.tree - counted_pages (after_order settings st (shown 0) (Tidy most)).0.tree)
    ++ printed settings (after_order settings st (shown 0) (Tidy most)).0 (later shown) m rest
printed-tidy settings st shown m most rest = refl

-- the division of the commands into batches makes no difference
printed-commands : (settings : Settings) (st : Store) (shown : Reads) (m : List (List ℕ × List ℕ)) (orders : List Order) → AllByRecursion IsBatch orders
    → printed settings st shown m orders ≡ flat_map shown_reply (replies_to m (flat_map commands_of orders))
printed-commands settings st shown m [] only = refl
printed-commands settings st shown m (Batch commands ∷ rest) only =
    let further = flat_map commands_of rest in
    let then : Store = (after_order settings st (shown 0) (Batch commands)).0 in
    printed-batch settings st shown m commands rest
    ∙ ap (λ (l : List ℕ). flat_map shown_reply (replies_to m commands) ++ l) (printed-commands settings then (later shown) (map_after_all m commands) rest only.1)
    ∙ sym (flat_map-append shown_reply (replies_to m commands) (replies_to (map_after_all m commands) further))
    ∙ ap (λ (rs : List (Reply Global)). flat_map shown_reply rs) (sym (replies_to-append m commands further))
printed-commands settings st shown m (_ ∷ rest) only = absurd only.0

pub printed-orders : (settings : Settings) (st : Store) (shown : Reads) (m : List (List ℕ × List ℕ)) (orders : List Order) → All IsBatch orders
    → printed settings st shown m orders ≡ flat_map shown_reply (replies_to m (flat_map commands_of orders))
printed-orders settings st shown m orders only = printed-commands settings st shown m orders (recursion_from_All IsBatch orders only)

pub printed-parsed : (settings : Settings) (st : Store) (shown : Reads) (parsed : List Line) → All IsForBatches parsed
    → printed settings st shown [] (orders_of [] parsed) ≡ flat_map shown_reply (replies_to [] (commands_of_lines parsed))
printed-parsed settings st shown parsed only =
    printed-commands settings st shown [] (orders_of [] parsed) (batches-orders_of [] parsed (recursion_from_All IsForBatches parsed only))
    ∙ ap (λ (cs : List (Command Global)). flat_map shown_reply (replies_to [] cs)) (commands-orders_of [] parsed)
