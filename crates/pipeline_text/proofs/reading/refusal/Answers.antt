-- The tokens of the text stop being a beginning at what is left, and the token before it says the kind.
use Rattle.std.proofs.Common.{◌∙◌, sym, refl}
use Rattle.pipeline_text.proofs.Places.{front_of}
use Rattle.pipeline_text.proofs.reading.refusal.Goals as goal

pub returns : goal.returns
returns c = record {
  rest = c.args.rest.now;
  expected = record {
    front = c.requires.expected.front;
    whole = sym c.requires.of_text ∙ c.requires.expected.whole;
    begun = c.requires.expected.begun;
    none = c.requires.expected.none;
  };
  at = c.place_of.ensures;
  because = rw (
    c.wrong-kind.ensures,
    c.last_kind.ensures,
    c.first_kind.ensures,
    front_of c.args.tokens.now c.requires.expected.front c.args.rest.now c.requires.expected.whole,
  ) refl;
}
