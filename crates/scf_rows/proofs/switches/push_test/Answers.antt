use Rattle.std.proofs.Common.{◌∙◌, ap, rules, w64}
use Rattle.std.proofs.lemmas.Int.{to_z-of_z}
use Rattle.scf_rows.specs.Trees.{constant_tree}
use Rattle.scf_rows.proofs.ProductLaws.{test_made}
use Rattle.scf_rows.proofs.switches.push_test.Goals as goal

pub returns : goal.returns
returns c =
    let same = to_z-of_z w64 c.args.number (search rules) in
    test_made c.args.index c.args.test c.in_ok-constant.constant c.in_ok-bit.bit c.args.number c.args.case c.args.other c.in_ok-known.known c.in_ok-known-2.known c.in_ok-case_constant.field-0 c.in_ok-compare.field-0 c.in_ok-conditional.field-0
    c.args.pieces.now c.push.new.self c.push-2.new.self c.push-3.new.self c.in_ok-constant.ensures c.in_ok-bit.ensures c.in_ok-known.ensures c.in_ok-known-2.ensures
    (c.in_ok-case_constant.ensures ∙ ap (constant_tree c.in_ok-constant.constant c.in_ok-bit.bit) same) c.in_ok-compare.ensures c.in_ok-conditional.ensures
    c.in_ok-push.ensures.ok c.in_ok-push-2.ensures.ok c.in_ok-push-3.ensures.ok
