use Rattle.std.proofs.Common.{rules, ◌≡◌, ◌∙◌, List, ℕ, Some, None, map, ap, sym, IfOk}
use Rattle.std.specs.Prelude.{option_map, option_and_then}
use Rattle.std.proofs.lemmas.Result.{IfOk-weaker}
use Rattle.tool_words.specs.Lists.{all_of}
use Rattle.tool_words.specs.Reading.{settings_read}
use Rattle.tool_words.specs.Settings.{settings_of}
use Rattle.tool_words.specs.Uses.{given_in}
use Rattle.tool_words.specs.Words.{word_or_none}
use Rattle.tool_words.proofs.Outside.{no_texts, texts_short, with_all}
use Rattle.tool_words.proofs.reading.read_words.Goals as goal

pub returns-in-Some : goal.returns-in-Some
returns-in-Some c =
    let ts : List (List ℕ) = map (λ s. s.now) c.in-Some.texts.items in
    let shown = c.in_ok-texts.ensures ∙ ap (all_of word_or_none) c.as_slice.ensures in
    let some : Some ts ≡ all_of word_or_none c.args.words.now = sym (ap (option_map (λ v. map (λ s. s.now) v.items)) c.in-Some.is) ∙ shown in
    let short = texts_short c.args.words.now ts some in
    let slice = c.as_slice-in-Some.ensures.value in
    let read : IfOk c.with_texts.result (λ r. r ≡ settings_read (option_and_then settings_of (given_in ts))) = search rules in
    IfOk-weaker c.with_texts.result _ _ (λ r h. h ∙ sym (with_all c.args.words.now ts some)) read

pub returns-in-None : goal.returns-in-None
returns-in-None c =
    let shown = c.in_ok-texts.ensures ∙ ap (all_of word_or_none) c.as_slice.ensures in
    let none : None ≡ all_of word_or_none c.args.words.now = sym (ap (option_map (λ v. map (λ s. s.now) v.items)) c.in-None.is) ∙ shown in
    IfOk-weaker c.outside.result _ _ (λ r h. h ∙ sym (no_texts c.args.words.now none)) c.outside.ensures
