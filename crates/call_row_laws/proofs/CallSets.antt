-- The rows are sound at both widths of an index.
use Rattle.std.proofs.Common.{refl}
use Rattle.pattern_model.specs.FuncRows.{func_set_without_cast}
use Rattle.pattern_model.specs.Tables.{all_sets}
use Rattle.call_row_laws.specs.Promises.{ReturnRowHolds, CastRowHolds}
use Rattle.call_row_laws.proofs.Recasts.{recast_sound}
use Rattle.call_row_laws.proofs.Returned.{return_sound}

pub return_row : ReturnRowHolds
return_row = record {
  alone = λ bits w. (return_sound bits func_set_without_cast refl refl refl, tt);
  among_all = λ bits w. (return_sound bits all_sets refl refl refl, tt);
}

pub cast_row : CastRowHolds
cast_row bits w = (recast_sound bits all_sets, tt)
