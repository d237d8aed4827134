-- A text has one answer.
use Rattle.std.proofs.Common.{◌≡◌, ℕ, List, ◌++◌, sym, ap, ◌∙◌}
use Rattle.grammar_model.proofs.Whole.{one_reading, one_place, not_expected}
use Rattle.pipeline_text.specs.declared.refusal.PipelineKind.{PipelineKind}
use Rattle.pipeline_text.specs.declared.token.Token.{Token}
use Rattle.pipeline_text.specs.Words.{tokens_of}
use Rattle.pipeline_text.specs.Reading.{IsRefused, first_kind, last_kind, place_of, wrong}
use Rattle.pipeline_text.specs.Promises.{OneAnswer}
use Rattle.pipeline_text.proofs.Productions.{pipeline_laws}
use Rattle.pipeline_text.proofs.Places.{front_of}

same_rest : (text : List ℕ) (p q : ℕ) (k j : PipelineKind) (a : IsRefused text p k) (b : IsRefused text q j) → a.rest ≡ b.rest
same_rest text p q k j a b = one_place (tokens_of text) a.rest b.rest a.expected b.expected

same_front : (ts f g r s : List Token) → ts ≡ f ++ r → ts ≡ g ++ s → r ≡ s → f ≡ g
same_front ts f g r s ef eg e = sym (front_of ts f r ef) ∙ front_of ts g r (rw e eg)

same_kind : (text : List ℕ) (p q : ℕ) (k j : PipelineKind) → IsRefused text p k → IsRefused text q j → k ≡ j
same_kind text p q k j a b =
    let rest = same_rest text p q k j a b in
    let front = same_front (tokens_of text) a.expected.front b.expected.front a.rest b.rest a.expected.whole b.expected.whole rest in
    a.because ∙ ap (λ (f : List Token). wrong (last_kind f) (first_kind a.rest)) front ∙ ap (λ (r : List Token). wrong (last_kind b.expected.front) (first_kind r)) rest
    ∙ sym b.because

pub one_answer : OneAnswer
one_answer = λ text. record {
  one_reading = λ a b wa wb. one_reading pipeline_laws a b (tokens_of text) wa wb;
  not_both = λ a place kind w refused. not_expected (tokens_of text) refused.rest (a, w) refused.expected;
  one_place = λ p q k j a b. a.at ∙ ap (place_of text) (same_rest text p q k j a b) ∙ sym b.at;
  one_kind = same_kind text;
}
