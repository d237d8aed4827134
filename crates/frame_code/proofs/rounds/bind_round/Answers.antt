use Rattle.std.proofs.Common.{◌∷◌, ◌-◌, length, get_or, take, drop, subst}
use Rattle.operation_model.specs.Values as values
use Rattle.form_model.specs.Codes as codes
use Rattle.value_code.specs.Models.{value_of, values_of}
use Rattle.value_code.specs.declared.value.Value as value
use Rattle.value_code.proofs.Shapes.{value_of-Integer}
use Rattle.table_code.specs.Agreement.{Binds}
use Rattle.frame_code.proofs.MoveLaws.{first_and_rest}
use Rattle.frame_code.proofs.rounds.bind_round.Goals as goal

pub returns-in_ok-bind-in-len1-up : goal.returns-in_ok-bind-in-len1-up
returns-in_ok-bind-in-len1-up c = λ env agrees.
    subst (λ ids. Binds c.in_ok-bind-in-len1-up.field-0 c.bind.new.table (codes.bind ids (values.Integer c.args.i ∷ values_of c.args.xs.now) env))
    (first_and_rest c.args.ids.now c.in-len1-up.len_at_least)
    (subst
    (λ v. Binds c.in_ok-bind-in-len1-up.field-0 c.bind.new.table (codes.bind (take (length c.args.ids.now - 1) (drop 1 c.args.ids.now)) (values_of c.args.xs.now) ((get_or c.args.ids.now 0 0, v) ∷ env)))
    (value_of-Integer c.args.i)
    (c.in_ok-bind-in-len1-up.ensures ((get_or c.args.ids.now 0 0, value_of (value.Integer c.args.i)) ∷ env) (c.in_ok-put-in-len1-up.ensures env agrees)))
