use Rattle.std.proofs.Common.{length, sym, ap, ◌∙◌, arith}
use Rattle.std.specs.Ordering.{is_eq}
use Rattle.std.specs.Option.{option_copied}
use Rattle.verify.proofs.PageLemmas.{range_alone, too_deep, not_too_deep, sizes_first, depth_first, none_broken}
use Rattle.verify.proofs.page_rules.broken_rule.Goals as goal

pub returns-then-not-fits_sizes : goal.returns-then-not-fits_sizes
returns-then-not-fits_sizes g c =
    let same = sym (c.if-not-is_eq.ensures ∙ ap is_eq c.compare.ensures) in
    let range = range_alone c.at.inside.low.now (option_copied c.at.inside.end) (record { low = c.args.low.now; layers = record { runs = c.args.runs.now.runs; base = g.B.BaseList.entries c.args.base.now } }) c.requires ∙ sym c.if-not-names_within.ensures in
    rw (← c.at.view_is) (sizes_first _ _ _ _ same range (sym c.if-not-fits_sizes.ensures))

pub returns-then-depth-settings : goal.returns-then-depth-settings
returns-then-depth-settings g c =
    let same = sym (c.if-not-is_eq.ensures ∙ ap is_eq c.compare.ensures) in
    let range = range_alone c.at.inside.low.now (option_copied c.at.inside.end) (record { low = c.args.low.now; layers = record { runs = c.args.runs.now.runs; base = g.B.BaseList.entries c.args.base.now } }) c.requires ∙ sym c.if-not-names_within.ensures in
    let deep = too_deep (length c.args.runs.now.runs) 18446744073709551615 c.depth.result c.args.settings.now.chain c.depth.ensures (omega arith) in
    rw (← c.at.view_is) (depth_first _ _ _ _ same range (sym c.if-not-fits_sizes.ensures) deep)

pub returns : goal.returns
returns g c =
    let same = sym (c.if-not-is_eq.ensures ∙ ap is_eq c.compare.ensures) in
    let range = range_alone c.at.inside.low.now (option_copied c.at.inside.end) (record { low = c.args.low.now; layers = record { runs = c.args.runs.now.runs; base = g.B.BaseList.entries c.args.base.now } }) c.requires ∙ sym c.if-not-names_within.ensures in
    let deep = not_too_deep (length c.args.runs.now.runs) 18446744073709551615 c.depth.result c.args.settings.now.chain c.depth.ensures (omega arith) (omega arith) in
    rw (← c.at.view_is) (none_broken _ _ _ _ same range (sym c.if-not-fits_sizes.ensures) deep)
