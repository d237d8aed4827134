use Rattle.std.proofs.Common.{◌≡◌, length, arith}
use Rattle.std.proofs.lemmas.Bool.{ltb-true, ltb-false, leb-true}
use Rattle.doing_code.proofs.AccessLaws.{not_two, just_two}
use Rattle.doing_code.proofs.access.allocate_aligned.Goals as goal
use Rattle.doing_code.proofs.access.allocate_aligned.Goals.{in_default-via-then-xs-lt2, in_default-via-else-xs-lt2+else-xs-lt3}

pub returns-in-len2 : goal.returns-in-len2
returns-in-len2 c =
    just_two c.allocate_by.result c.args.labels.now c.args.xs.now c.a-item.result c.n-item.result c.in-len2.len_at_least c.in-len2.len_below c.a-item.is c.n-item.is c.allocate_by.ensures

pub returns-in_default : goal.returns-in_default
returns-in_default c =
    not_two c.args.labels.now c.args.xs.now
    (elim c.in_default.branch [ in_default-via-then-xs-lt2 w ↦ (λ h. omega (arith, ltb-true, ltb-false, leb-true, h)) | in_default-via-else-xs-lt2+else-xs-lt3 w ↦ (λ h. omega (arith, ltb-true, ltb-false, leb-true, h)) ])
