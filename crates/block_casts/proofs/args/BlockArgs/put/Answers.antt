use Rattle.std.proofs.Common.{ap, map}
use Rattle.std.specs.Option.{option_map}
use Rattle.plain_tree.specs.Types.{plain_type}
use Rattle.plain_tree.specs.Ops.{plain_op, plain_values}
use Rattle.block_casts.proofs.ChangedLaws.{cast_none, cast_some, put_none, put_some}
use Rattle.block_casts.proofs.args.BlockArgs.put.Goals as goal

pub returns-in_ok-keep-in-None-clause-args : goal.returns-in_ok-keep-in-None-clause-args
returns-in_ok-keep-in-None-clause-args c =
    put_none _ (plain_values c.args.self.now.args) (plain_values c.keep.new.self.args) c.args.place.0 c.args.place.1 (c.args.arg.now.0, plain_type c.args.arg.now.1) (option_map plain_type c.args.form)
    (ap (option_map plain_type) c.in-None.is) c.in_ok-keep-in-None.ensures.args

pub returns-in_ok-keep-in-None-clause-casts : goal.returns-in_ok-keep-in-None-clause-casts
returns-in_ok-keep-in-None-clause-casts c =
    cast_none _ (map plain_op c.args.self.now.casts) (map plain_op c.keep.new.self.casts) c.args.place.0 c.args.place.1 (c.args.arg.now.0, plain_type c.args.arg.now.1) (option_map plain_type c.args.form)
    (ap (option_map plain_type) c.in-None.is) c.in_ok-keep-in-None.ensures.casts

pub returns-in_ok-convert-in-Some-clause-args : goal.returns-in_ok-convert-in-Some-clause-args
returns-in_ok-convert-in-Some-clause-args c =
    put_some _ (plain_values c.args.self.now.args) (plain_values c.convert.new.self.args) c.args.place.0 c.args.place.1 c.in_ok-number-in-Some.number (c.args.arg.now.0, plain_type c.args.arg.now.1) (option_map plain_type c.args.form) (plain_type c.in-Some.form)
    (ap (option_map plain_type) c.in-Some.is) c.in_ok-convert-in-Some.ensures.args c.in_ok-number-in-Some.ensures.number

pub returns-in_ok-convert-in-Some-clause-casts : goal.returns-in_ok-convert-in-Some-clause-casts
returns-in_ok-convert-in-Some-clause-casts c =
    cast_some _ (map plain_op c.args.self.now.casts) (map plain_op c.convert.new.self.casts) c.args.place.0 c.args.place.1 c.in_ok-number-in-Some.number (c.args.arg.now.0, plain_type c.args.arg.now.1) (option_map plain_type c.args.form) (plain_type c.in-Some.form)
    (ap (option_map plain_type) c.in-Some.is) c.in_ok-convert-in-Some.ensures.casts c.in_ok-number-in-Some.ensures.number
