-- Which kinds of token fit at a place.
use Rattle.std.specs.Prelude.{Bool, true, false, ◌&&◌, not}
use Rattle.pipeline_text.specs.declared.token.Token.{Token}
use Rattle.pipeline_text.specs.declared.token.Kind.{Kind}
use Rattle.pipeline_text.specs.declared.token.Kind.TheVariants as kinds
use Rattle.pipeline_text.specs.declared.token.Wanted.{Wanted}
use Rattle.pipeline_text.specs.declared.token.Wanted.TheVariants as wanted
use Rattle.pipeline_text.specs.Passes.{may_stand, has_width}

abbrev pub kind_of : Token → Kind
kind_of t = t.kind

abbrev pub fits : Wanted → Kind → Bool
fits wanted.Module kinds.Module = true
fits wanted.OnEach (kinds.OnEach a) = true
fits (wanted.WidePass level) (kinds.Pass p) = has_width p && may_stand level p
fits (wanted.PlainPass level) (kinds.Pass p) = not (has_width p) && may_stand level p
fits wanted.Width kinds.Width = true
fits wanted.NoOption kinds.NoOption = true
fits wanted.Value kinds.Zero = true
fits wanted.Value kinds.SixtyFour = true
fits wanted.Open kinds.Open = true
fits wanted.Close kinds.Close = true
fits wanted.OpenBrace kinds.OpenBrace = true
fits wanted.CloseBrace kinds.CloseBrace = true
fits wanted.Equals kinds.Equals = true
fits wanted.Comma kinds.Comma = true
fits w k = false
