use Rattle.std.proofs.Common.{sym, ◌∙◌, ◌-◌, arith}
use Rattle.use_paths.proofs.Stack.{all_taken, found_here, home_not_here, none_left}
use Rattle.use_paths.proofs.walk.Walk.home_of.Goals as goal

pub loop-depth-init : goal.loop-depth-init
loop-depth-init c = record {
  within = omega (arith, c.len-depth.ensures, c.args.self.now.levels.ok.0);
  still = all_taken c.args.self.now.levels.items c.len-depth.result c.args.value (c.len-depth.ensures ∙ c.args.self.now.levels.ok.0);
}

pub loop-depth-preserved : goal.loop-depth-preserved
loop-depth-preserved c = record {
  within = omega (arith, c.loop-depth.invariant.within);
  still =
      home_not_here c.args.self.now.levels.items (c.loop-depth.depth - 1) c.loop-depth.depth c.args.value c.index.result.now (omega (arith, c.loop-depth-test.true)) c.loop-depth.invariant.within
      c.index.ensures (sym c.in_default.is ∙ c.home.ensures) c.loop-depth.invariant.still;
}

pub returns : goal.returns
returns c = none_left c.args.self.now.levels.items c.loop-depth.depth c.args.value c.loop-depth-test.false c.loop-depth.invariant.still

pub returns-in-Some : goal.returns-in-Some
returns-in-Some c =
    found_here c.args.self.now.levels.items (c.loop-depth.depth - 1) c.loop-depth.depth c.args.value c.index.result.now c.in-Some.home (omega (arith, c.loop-depth-test.true)) c.loop-depth.invariant.within
    c.index.ensures (sym c.in-Some.is ∙ c.home.ensures) c.loop-depth.invariant.still
