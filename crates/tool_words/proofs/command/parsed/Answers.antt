use Rattle.std.proofs.Common.{◌≡◌, ◌∙◌, ap, map, true, false, sym}
use denote.Enum.Bare.{sameb}
use Rattle.clap.specs.contracts.error.kind.ErrorKind.{the_type}
use Rattle.clap.specs.declared.error.kind.ErrorKind.TheVariants as kind
use Rattle.tool_words.proofs.Kept.{form_found, form_refused}
use Rattle.tool_words.proofs.command.parsed.Goals as goal

pub returns-in-Ok : goal.returns-in-Ok
returns-in-Ok c = λ short.
    form_found _ _ (map (λ s. s.now) c.args.texts.now) c.in-Ok.matches c.in_ok-command.ensures short c.in-Ok.ensures.kinds c.in-Ok.ensures.matches c.found.ensures

pub returns : goal.returns
returns c = λ short.
    form_refused _ (map (λ s. s.now) c.args.texts.now) c.in-Err.error c.in_ok-command.ensures short c.in-Err.ensures.kinds (λ memory.
    let known : c.kind.result ≡ kind.OutOfMemory = c.kind.ensures ∙ memory in
    let bad : false ≡ true = sym c.if-eq.false ∙ c.eq.ensures ∙ ap (λ k. sameb the_type k kind.OutOfMemory) known in
    absurd cc)
