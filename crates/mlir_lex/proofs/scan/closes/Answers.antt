use Rattle.std.proofs.Common.{arith, ◌+◌, ◌∷◌, drop, get_or, sym, ap, ◌∙◌}
use Rattle.std.proofs.lemmas.List.{at_drop_more, at_drop_all}
use Rattle.mlir_lex.specs.Scan.{closes}
use Rattle.mlir_lex.proofs.Runs.{closes-feed, closes-quote, closes-step}
use Rattle.mlir_lex.proofs.scan.closes.Goals as goal

pub returns-then-b-eq10 : goal.returns-then-b-eq10
returns-then-b-eq10 c = sym (closes-feed c.bytes.escaped _ _ c.if-b-eq10.true) ∙ sym (at_drop_more (closes c.bytes.escaped) c.args.text.now c.bytes.b-index 0 c.bytes-test.true) ∙ c.bytes.invariant

pub returns-then-not-escaped : goal.returns-then-not-escaped
returns-then-not-escaped c =
    let left = drop (c.bytes.b-index + 1) c.args.text.now in
    let here = get_or c.args.text.now c.bytes.b-index 0 in
    sym (closes-quote here left c.if-b-eq34.true) ∙ ap (λ e. closes e (here ∷ left)) (sym c.if-not-escaped.true) ∙ sym (at_drop_more (closes c.bytes.escaped) c.args.text.now c.bytes.b-index 0 c.bytes-test.true) ∙ c.bytes.invariant

pub bytes-preserved : goal.bytes-preserved
bytes-preserved c =
    let left = drop (c.bytes.b-index + 1) c.args.text.now in
    ap (λ e. closes e left) c.escapes-escaped.ensures ∙ sym (closes-step c.bytes.escaped (get_or c.args.text.now c.bytes.b-index 0) left c.if-b-eq10.false c.else-b-eq34.either) ∙ sym (at_drop_more (closes c.bytes.escaped) c.args.text.now c.bytes.b-index 0 c.bytes-test.true) ∙ c.bytes.invariant

pub returns : goal.returns
unfolding closes
returns c = sym (at_drop_all (closes c.bytes.escaped) c.args.text.now c.bytes.b-index (omega arith)) ∙ c.bytes.invariant
