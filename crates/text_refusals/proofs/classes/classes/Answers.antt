use Rattle.std.proofs.Common.{arith, false}
use Rattle.std.proofs.lemmas.Grind.{common_steps}
use Rattle.text_grammar.specs.declared.kinds.Kind.TheVariants as kinds
use Rattle.text_grammar.specs.declared.words.Word.{Word}
use Rattle.text_refusals.proofs.ClassLemmas.{class_next}
use Rattle.text_refusals.proofs.classes.classes.Goals as goal

-- the checker's own word where none stands
abbrev nothing : Word
nothing = record { kind = kinds.Value; long = false; start = 0; end = 0 }

pub each-preserved : goal.each-preserved
each-preserved c =
    class_next c.args.text.now c.args.words.now c.each.classes.items c.push.new.self.items c.in_ok-class.class c.each.index nothing c.each-test.true c.each.invariant
    (c.in_ok-class.ensures nothing) (grind (arith, common_steps))
