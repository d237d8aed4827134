use Rattle.std.proofs.Common.{◌≡◌, ℕ, ◌∙◌, ◌∷◌, [], List, Option, Some, ap, map, sym}
use Rattle.std.specs.Prelude.{slice_get}
use Rattle.plain_tree.specs.Types.{PlainType}
use Rattle.plain_tree.specs.Ops.{plain_op}
use Rattle.conversion_model.specs.Chosen.{Leaves, chosen}
use Rattle.conversion_model.specs.Rows.{Numbers}
use Rattle.conversion_target.specs.Targets.{target_of}
use Rattle.cut_code.specs.declared.pieces.PieceTree.{PieceTree}
use Rattle.cut_code.specs.Pieces.{cutting_at, pieces_of, pieces_or_none}
use Rattle.value_types.specs.Views.{type_at}
use Rattle.unit_choices.specs.Lines.{lines_in, lines_or_none, plain_lines}
use Rattle.unit_choices.specs.Separate.{NotIn, Without}
use Rattle.unit_choices.proofs.KindLaws.{cut_done, cut_fails, lines_are}
use Rattle.unit_choices.proofs.cuts.cut_choice.Goals as goal

pub returns-in-Some-2-clause-is : goal.returns-in-Some-2-clause-is
returns-in-Some-2-clause-is g c = λ new apart.
    let target = target_of c.args.pass.now.target.now in
    let table = g.S.Rows.table c.args.pass.now.set.now in
    let leaves : Leaves = chosen c.args.pass.now.bits target table (c.args.place ∷ []) in
    let given : (num : Numbers) (type_of : ℕ → PlainType) → Some (pieces_of num type_of c.in-Some.pieces) ≡ cutting_at c.args.pass.now.bits (slice_get table c.args.place) num type_of (plain_op c.args.op.now) =
    λ num type_of. sym (ap (pieces_or_none num type_of) c.in-Some.is) ∙ c.in_ok-pieces.ensures (plain_op c.args.op.now) (sym c.in_ok-sketch.ensures) num type_of in
    cut_done target leaves c.args.place new (type_at c.args.types.now) (plain_op c.args.op.now) c.in-Some.pieces (plain_lines c.in-Some-2.lines)
    (cutting_at c.args.pass.now.bits (slice_get table c.args.place) new (type_at c.args.types.now) (plain_op c.args.op.now)) apart
    (λ k. c.requires.own c.args.place (plain_op c.args.op.now) c.in-Some.pieces given (new.value k) (apart.apart k)) (given new (type_at c.args.types.now))
    (sym (ap lines_or_none c.in-Some-2.is) ∙ c.in_ok-lines.ensures ∙ ap (λ (ps : List PieceTree). lines_in target leaves (type_at c.args.types.now) ps) c.as_slice.ensures)

pub returns-in-Some-2-clause-stands : goal.returns-in-Some-2-clause-stands
returns-in-Some-2-clause-stands g c =
    let target = target_of c.args.pass.now.target.now in
    let table = g.S.Rows.table c.args.pass.now.set.now in
    let leaves : Leaves = chosen c.args.pass.now.bits target table (c.args.place ∷ []) in
    let given : (num : Numbers) (type_of : ℕ → PlainType) → Some (pieces_of num type_of c.in-Some.pieces) ≡ cutting_at c.args.pass.now.bits (slice_get table c.args.place) num type_of (plain_op c.args.op.now) =
    λ num type_of. sym (ap (pieces_or_none num type_of) c.in-Some.is) ∙ c.in_ok-pieces.ensures (plain_op c.args.op.now) (sym c.in_ok-sketch.ensures) num type_of in
    record {
      lines = lines_are target leaves (type_at c.args.types.now) c.in-Some.pieces (plain_lines c.in-Some-2.lines)
          (sym (ap lines_or_none c.in-Some-2.is) ∙ c.in_ok-lines.ensures ∙ ap (λ (ps : List PieceTree). lines_in target leaves (type_at c.args.types.now) ps) c.as_slice.ensures);
      own = c.requires.own c.args.place (plain_op c.args.op.now) c.in-Some.pieces given;
    }

pub returns-clause-is : goal.returns-clause-is
returns-clause-is g c = λ new apart.
    let target = target_of c.args.pass.now.target.now in
    let table = g.S.Rows.table c.args.pass.now.set.now in
    let leaves : Leaves = chosen c.args.pass.now.bits target table (c.args.place ∷ []) in
    let given : (num : Numbers) (type_of : ℕ → PlainType) → Some (pieces_of num type_of c.in-Some.pieces) ≡ cutting_at c.args.pass.now.bits (slice_get table c.args.place) num type_of (plain_op c.args.op.now) =
    λ num type_of. sym (ap (pieces_or_none num type_of) c.in-Some.is) ∙ c.in_ok-pieces.ensures (plain_op c.args.op.now) (sym c.in_ok-sketch.ensures) num type_of in
    cut_fails target leaves c.args.place new (type_at c.args.types.now) (plain_op c.args.op.now) c.in-Some.pieces
    (cutting_at c.args.pass.now.bits (slice_get table c.args.place) new (type_at c.args.types.now) (plain_op c.args.op.now)) apart
    (λ k. c.requires.own c.args.place (plain_op c.args.op.now) c.in-Some.pieces given (new.value k) (apart.apart k)) (given new (type_at c.args.types.now))
    (sym (ap lines_or_none c.in-None.is) ∙ c.in_ok-lines.ensures ∙ ap (λ (ps : List PieceTree). lines_in target leaves (type_at c.args.types.now) ps) c.as_slice.ensures)
