use Rattle.std.proofs.Common.{◌≡◌}
use Rattle.event_trees.specs.Modules.{funcs_of}
use Rattle.module_trees.proofs.modules.funcs_of.Given as goal

-- the functions so far
abbrev pub invariant-each : goal.invariant-each
invariant-each l = l.funcs.items ≡ funcs_of l.yielded
