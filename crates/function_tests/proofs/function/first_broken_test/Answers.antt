use Rattle.plain_tree.proofs.TypeOpens.{plain-Void}
use Rattle.plain_tree.specs.Ops.{plain_func}
use Rattle.rule_tests.specs.Tests.{seen_from}
use Rattle.value_types.specs.Views.{type_at}
use Rattle.function_tests.proofs.SiteFacts.{found_none, found_some}
use Rattle.function_tests.proofs.function.first_broken_test.Goals as goal

pub first_in-requires : goal.first_in-requires
first_in-requires c = record { stands = c.requires; void = plain-Void }

pub returns-in-Some : goal.returns-in-Some
returns-in-Some c =
    found_some (seen_from c.args.symbols.now c.args.earlier) (plain_func c.args.func.now) (type_at c.in_ok-types.types) _ c.first_in.new.count c.in-Some.rule
    c.in_ok-types.ensures c.in_ok-rule.ensures c.in-Some.is

pub returns : goal.returns
returns c =
    found_none (seen_from c.args.symbols.now c.args.earlier) (plain_func c.args.func.now) (type_at c.in_ok-types.types) _ c.first_in.new.count
    c.in_ok-types.ensures c.in_ok-rule.ensures c.in-None.is
