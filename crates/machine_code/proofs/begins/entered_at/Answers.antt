use Rattle.std.proofs.Common.{◌≡◌, map, [], true, false, Some, None, sym, subst, ap, ap₂, ◌∙◌}
use Rattle.form_model.specs.Codes.{Env, bind}
use Rattle.value_code.specs.Models.{values_of}
use Rattle.run_code.specs.Views.{ops_of, blocks_of}
use Rattle.table_code.specs.Agreement.{Binds}
use Rattle.frame_code.specs.Frames.{frame_of, target_of}
use Rattle.frame_code.proofs.MoveLaws.{entry_some}
use Rattle.machine_code.proofs.RunLaws.{entered_there, entered_not, spot_at, top_at}
use Rattle.machine_code.proofs.begins.entered_at.Goals as goal

pub returns-then-not-branch : goal.returns-then-not-branch
returns-then-not-branch c =
    let bound : Binds false c.bind.new.table (bind c.as_slice.result.now (values_of c.args.args.now) []) = subst (λ d. Binds d c.bind.new.table (bind c.as_slice.result.now (values_of c.args.args.now) [])) c.if-not-branch.true (c.in_ok-bind.ensures [] c.no_values-table.ensures) in
    entered_not (blocks_of c.args.blocks.now) (target_of c.in-Some.first.now) (values_of c.args.args.now) (entry_some c.args.blocks.now c.in-Some.first.now c.in-Some.ensures.value)
    (ap (λ ids. bind ids (values_of c.args.args.now) []) (sym c.as_slice.ensures) ∙ bound)

pub returns : goal.returns
returns c =
    let bound : Binds true c.bind.new.table (bind c.as_slice.result.now (values_of c.args.args.now) []) = subst (λ d. Binds d c.bind.new.table (bind c.as_slice.result.now (values_of c.args.args.now) [])) c.if-not-branch.false (c.in_ok-bind.ensures [] c.no_values-table.ensures) in
    record {
      env = bound.0;
      spot = record { ops = ops_of c.as_slice-2.result.now; blocks = blocks_of c.args.blocks.now; env = bound.0 };
      agrees = bound.2;
      is = entered_there (blocks_of c.args.blocks.now) (target_of c.in-Some.first.now) (values_of c.args.args.now) bound.0 (entry_some c.args.blocks.now c.in-Some.first.now c.in-Some.ensures.value)
          (ap (λ ids. bind ids (values_of c.args.args.now) []) (sym c.as_slice.ensures) ∙ bound.1) ∙ ap (λ os. spot_at (ops_of os) (blocks_of c.args.blocks.now) bound.0) (sym c.as_slice-2.ensures);
      place = ap (λ fs. top_at (ops_of c.as_slice-2.result.now) (blocks_of c.args.blocks.now) bound.0 (map frame_of fs)) (sym c.new.ensures.items);
    }
