-- The pipeline of a text as a function is what the grammar says of the text.
use Rattle.std.proofs.Common.{◌≡◌, ◌∙◌, ℕ, List, [], ◌∷◌, Result, Ok, Err, Bool, ◌<◌, ◌≤◌, refl, sym, ap, ap₂, subst}
use Rattle.std.specs.Prelude.{if◌then◌else◌}
use Rattle.grammar_model.specs.Expected.{IsExpected, with_nothing}
use Rattle.grammar_model.specs.Syntax.{◌>>=◌}
use Rattle.grammar_model.proofs.Whole.{not_expected, one_place, whole_found, whole_left, whole_only, whole_refused}
use Rattle.pipeline_text.specs.declared.pass.Pipeline.{Pipeline}
use Rattle.pipeline_text.specs.declared.pass.Stage.{Stage}
use Rattle.pipeline_text.specs.declared.refusal.PipelineKind.{PipelineKind}
use Rattle.pipeline_text.specs.declared.token.Token.{Token}
use Rattle.pipeline_text.specs.Grammar.{pipeline}
use Rattle.pipeline_text.specs.Words.{tokens_of}
use Rattle.pipeline_text.specs.Reading.{IsRefused, ReadsAs, first_kind, last_kind, wrong}
use Rattle.pipeline_text.proofs.Places.{front_of}
use Rattle.pipeline_text.proofs.Productions.{pipeline_laws}
use Rattle.std.proofs.lemmas.Bool.{le-ltb, lt-ltb}
use Rattle.tool_words.specs.declared.request.WordsRead.{WordsRead}
use Rattle.tool_words.specs.declared.request.WordsRead.TheVariants.{Asked, Refused}
use Rattle.tool_words.specs.Promises.{IsPipelineOf}
use Rattle.tool_words.specs.Pipelines.{pipeline_from, pipeline_of, refused_at}
use Rattle.tool_words.specs.Reading.{pipeline_read, pipeline_refused, workers_text}
use Rattle.tool_words.specs.Settings.{Settings}

abbrev whole : Result (List Stage × List Token) (List Token) → Result (List Stage) (List Token)
whole r = r >>= λ x. with_nothing x.0 x.1

pub pipeline_found : (text : List ℕ) (stages : List Stage) → ReadsAs text stages → pipeline_of text ≡ Ok (record { stages = stages })
unfolding pipeline_of
pipeline_found text stages w = ap (λ r. pipeline_from text (whole r)) (whole_only pipeline_laws stages (tokens_of text) w)

stops_at : (text : List ℕ) (place : ℕ) (kind : PipelineKind) (h : IsRefused text place kind) (r : Result (List Stage × List Token) (List Token))
    → pipeline.read (tokens_of text) ≡ r → whole r ≡ Err h.rest
stops_at text place kind h (Ok (stages, [])) e = absurd (not_expected (tokens_of text) h.rest (stages, whole_found pipeline_laws stages (tokens_of text) e) h.expected)
stops_at text place kind h (Ok (stages, t ∷ rest)) e =
    ap (λ (ts : List Token). Err ts) (one_place (tokens_of text) (t ∷ rest) h.rest (whole_left pipeline_laws stages (tokens_of text) t rest e) h.expected)
stops_at text place kind h (Err rest) e =
    ap (λ (ts : List Token). Err ts) (one_place (tokens_of text) rest h.rest (whole_refused pipeline_laws (tokens_of text) rest e) h.expected)

same_refusal : (text : List ℕ) (place : ℕ) (kind : PipelineKind) (h : IsRefused text place kind) → refused_at text (tokens_of text) h.rest ≡ (place, kind)
same_refusal text place kind h =
    ap₂ (λ p k. (p, k)) (sym h.at)
    (ap (λ (ts : List Token). wrong (last_kind ts) (first_kind h.rest)) (front_of (tokens_of text) h.expected.front h.rest h.expected.whole) ∙ sym h.because)

pub pipeline_unread : (text : List ℕ) (place : ℕ) (kind : PipelineKind) → IsRefused text place kind → pipeline_of text ≡ Err (place, kind)
unfolding pipeline_of
pipeline_unread text place kind h =
    ap (pipeline_from text) (stops_at text place kind h (pipeline.read (tokens_of text)) refl) ∙ ap (λ (p : ℕ × PipelineKind). Err p) (same_refusal text place kind h)

-- and nothing else

stages_of : Result Pipeline (ℕ × PipelineKind) → List Stage → List Stage
stages_of (Ok p) d = p.stages
stages_of (Err e) d = d

read_as : (text : List ℕ) (p : Pipeline) (r : Result (List Stage × List Token) (List Token)) → pipeline.read (tokens_of text) ≡ r → pipeline_from text (whole r) ≡ Ok p
    → ReadsAs text p.stages
unfolding stages_of
read_as text p (Ok (stages, [])) e h =
    subst (λ (s : List Stage). pipeline.Written s (tokens_of text)) (ap (λ r. stages_of r []) h) (whole_found pipeline_laws stages (tokens_of text) e)
read_as text p (Ok (stages, t ∷ rest)) e h = absurd cc
read_as text p (Err rest) e h = absurd cc

refusal_or : ℕ × PipelineKind → Result Pipeline (ℕ × PipelineKind) → ℕ × PipelineKind
refusal_or d (Ok p) = d
refusal_or d (Err e) = e

refused_by : (text : List ℕ) (rest : List Token) (place : ℕ) (kind : PipelineKind) (h : IsExpected pipeline (tokens_of text) rest) → refused_at text (tokens_of text) rest ≡ (place, kind)
    → IsRefused text place kind
refused_by text rest place kind h e = record {
  rest = rest;
  expected = h;
  at = sym (ap (λ (p : ℕ × PipelineKind). p.0) e);
  because = sym (ap (λ (p : ℕ × PipelineKind). p.1) e)
      ∙ ap (λ (ts : List Token). wrong (last_kind ts) (first_kind rest)) (front_of (tokens_of text) h.front rest h.whole);
}

refused_as : (text : List ℕ) (place : ℕ) (kind : PipelineKind) (r : Result (List Stage × List Token) (List Token)) → pipeline.read (tokens_of text) ≡ r
    → pipeline_from text (whole r) ≡ Err (place, kind) → IsRefused text place kind
unfolding refusal_or
refused_as text place kind (Ok (stages, [])) e h = absurd cc
refused_as text place kind (Ok (stages, t ∷ rest)) e h =
    refused_by text (t ∷ rest) place kind (whole_left pipeline_laws stages (tokens_of text) t rest e) (ap (refusal_or (place, kind)) h)
refused_as text place kind (Err rest) e h = refused_by text rest place kind (whole_refused pipeline_laws (tokens_of text) rest e) (ap (refusal_or (place, kind)) h)

pub is_pipeline_of : (text : List ℕ) → IsPipelineOf text
unfolding pipeline_of
is_pipeline_of text = record {
  reads = λ p. (read_as text p (pipeline.read (tokens_of text)) refl, pipeline_found text p.stages);
  refuses = λ place kind. (refused_as text place kind (pipeline.read (tokens_of text)) refl, pipeline_unread text place kind);
}

-- what the pipeline of the settings leads to

abbrev by_workers : Bool → Settings → Pipeline → WordsRead
by_workers more s p = if more then Refused workers_text else Asked (record { pipeline = p; allowed = s.allowed; run = s.run })

pub many_workers : (s : Settings) (p : Pipeline) → 1 < s.workers → pipeline_of s.pipeline ≡ Ok p → pipeline_read s (pipeline_of s.pipeline) ≡ Refused workers_text
many_workers s p more e = ap (pipeline_read s) e ∙ ap (λ b. by_workers b s p) (lt-ltb 1 s.workers more)

pub one_worker : (s : Settings) (p : Pipeline) → s.workers ≤ 1 → pipeline_of s.pipeline ≡ Ok p
    → pipeline_read s (pipeline_of s.pipeline) ≡ Asked (record { pipeline = p; allowed = s.allowed; run = s.run })
one_worker s p few e = ap (pipeline_read s) e ∙ ap (λ b. by_workers b s p) (le-ltb 1 s.workers few)

pub refused_pipeline : (s : Settings) (place : ℕ) (kind : PipelineKind) → pipeline_of s.pipeline ≡ Err (place, kind)
    → pipeline_read s (pipeline_of s.pipeline) ≡ Refused (pipeline_refused (place, kind))
refused_pipeline s place kind e = ap (pipeline_read s) e
