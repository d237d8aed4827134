-- Words and what they are read as.
use Rattle.std.specs.Prelude.{◌≡◌, ℕ, ℤ, pos, negsuc, neg_ℤ, ◌^◌, ◌-◌, Bool, true, false, List, [], ◌∷◌, ◌++◌, map, Option, Some, None, codes}
use Rattle.pipeline_text.specs.declared.pass.Anchor.TheVariants.{FuncFunc}
use Rattle.pipeline_text.specs.declared.pass.PassName.TheVariants.{ArithExpand, ConvertScfToCf, FullConvertToLlvm}
use Rattle.pipeline_text.specs.declared.pass.Stage.{Stage}
use Rattle.pipeline_text.specs.declared.pass.Stage.TheVariants.{Each, Whole}
use Rattle.tool_words.specs.declared.request.RunWords.{RunWords}
use Rattle.tool_words.specs.declared.request.WordsRead.{WordsRead}
use Rattle.tool_words.specs.declared.request.WordsRead.TheVariants.{Asked, Refused}
use Rattle.tool_words.specs.Reading.{outside_text, words_read, workers_text}

-- words, and what they are to be read as
abbrev pub Example : Type 0
Example = List (List ℕ) × WordsRead

abbrev pub AreRead : List Example → Type 0
AreRead examples = map (λ e. words_read e.0) examples ≡ map (λ e. e.1) examples

abbrev asks : List Stage → Bool → Option RunWords → WordsRead
asks stages allowed run = Asked (record { pipeline = record { stages = stages }; allowed = allowed; run = run })

abbrev nothing : WordsRead
nothing = asks [] false None

abbrev outside : WordsRead
outside = Refused outside_text

abbrev runs : List ℕ → List ℤ → ℕ → WordsRead
runs name args fuel = asks [] false (Some (record { name = name; args = args; fuel = fuel }))

-- forms: an option and its value in one word or two, each at most once, '--' last
abbrev pub forms : List Example
forms =
    ([], nothing)
    ∷ (codes "--" ∷ [], nothing)
    ∷ (codes "--allow-unregistered-dialect" ∷ [], asks [] true None)
    ∷ (codes "--run=f" ∷ codes "--allow-unregistered-dialect" ∷ codes "--" ∷ [], asks [] true (Some (record { name = codes "f"; args = []; fuel = 100000 })))
    ∷ (codes "--run" ∷ codes "f" ∷ codes "--fuel" ∷ codes "7" ∷ [], runs (codes "f") [] 7)
    ∷ (codes "--run=a=b" ∷ [], runs (codes "a=b") [] 100000)
    ∷ (codes "--run=--" ∷ [], runs (codes "--") [] 100000)
    ∷ (codes "--run=" ∷ [], runs [] [] 100000)
    ∷ (codes "--run" ∷ [] ∷ [], runs [] [] 100000)
    ∷ (codes "x" ∷ [], outside)
    ∷ ([] ∷ [], outside)
    ∷ (codes "-" ∷ [], outside)
    ∷ (codes "--=" ∷ [], outside)
    ∷ (codes "run=f" ∷ [], outside)
    ∷ (codes "-run=f" ∷ [], outside)
    ∷ (codes "--ru=f" ∷ [], outside)
    ∷ (codes "--RUN=f" ∷ [], outside)
    ∷ (codes "-h" ∷ [], outside)
    ∷ (codes "--help" ∷ [], outside)
    ∷ (codes "--version" ∷ [], outside)
    ∷ (codes "--statistics" ∷ [], outside)
    ∷ (codes "--generate=1:2" ∷ [], outside)
    ∷ (codes "--run" ∷ [], outside)
    ∷ (codes "--run" ∷ codes "--" ∷ [], outside)
    ∷ (codes "--run" ∷ codes "-" ∷ [], outside)
    ∷ (codes "--run" ∷ codes "-f" ∷ [], outside)
    ∷ (codes "--run" ∷ codes "--fuel=3" ∷ [], outside)
    ∷ (codes "--run" ∷ codes "f" ∷ codes "g" ∷ [], outside)
    ∷ (codes "--" ∷ codes "--" ∷ [], outside)
    ∷ (codes "--" ∷ codes "--run=f" ∷ [], outside)
    ∷ (codes "--run=f" ∷ codes "--run=f" ∷ [], outside)
    ∷ (codes "--run" ∷ codes "f" ∷ codes "--run=g" ∷ [], outside)
    ∷ (codes "--allow-unregistered-dialect" ∷ codes "--allow-unregistered-dialect" ∷ [], outside)
    ∷ (codes "--allow-unregistered-dialect=" ∷ [], outside)
    ∷ (codes "--allow-unregistered-dialect=x" ∷ [], outside)
    ∷ (codes "--allow-unregistered-dialect" ∷ codes "x" ∷ [], outside)
    ∷ ((codes "--run=" ++ 255 ∷ []) ∷ [], outside)
    ∷ []

-- values, and what goes with a run alone
abbrev pub values : List Example
values =
    (codes "--workers=1" ∷ [], nothing)
    ∷ (codes "--workers=0001" ∷ [], nothing)
    ∷ (codes "--workers=2" ∷ [], Refused workers_text)
    ∷ (codes "--workers" ∷ codes "064" ∷ [], Refused workers_text)
    ∷ (codes "--workers=0" ∷ [], outside)
    ∷ (codes "--workers=65" ∷ [], outside)
    ∷ (codes "--workers=" ∷ [], outside)
    ∷ (codes "--workers=+1" ∷ [], outside)
    ∷ (codes "--workers=1 " ∷ [], outside)
    ∷ (codes "--run=f" ∷ codes "--fuel=0" ∷ [], runs (codes "f") [] 0)
    ∷ (codes "--fuel=1000000" ∷ codes "--run=f" ∷ [], runs (codes "f") [] 1000000)
    ∷ (codes "--run=f" ∷ codes "--fuel=1000001" ∷ [], outside)
    ∷ (codes "--run=f" ∷ codes "--fuel=99999999999999999999" ∷ [], outside)
    ∷ (codes "--run=f" ∷ codes "--fuel=" ∷ [], outside)
    ∷ (codes "--run=f" ∷ codes "--fuel=-1" ∷ [], outside)
    ∷ (codes "--fuel=3" ∷ [], outside)
    ∷ (codes "--args=" ∷ [], outside)
    ∷ (codes "--run=f" ∷ codes "--args=" ∷ [], runs (codes "f") [] 100000)
    ∷ (codes "--run=f" ∷ codes "--args=-7,2" ∷ [], runs (codes "f") (negsuc 6 ∷ pos 2 ∷ []) 100000)
    ∷ (codes "--run=f" ∷ codes "--args" ∷ codes "7" ∷ [], runs (codes "f") (pos 7 ∷ []) 100000)
    ∷ (codes "--run=f" ∷ codes "--args=-0,007" ∷ [], runs (codes "f") (pos 0 ∷ pos 7 ∷ []) 100000)
    ∷ (codes "--run=f" ∷ codes "--args=170141183460469231731687303715884105727" ∷ [], runs (codes "f") (pos (2 ^ 127 - 1) ∷ []) 100000)
    ∷ (codes "--run=f" ∷ codes "--args=-170141183460469231731687303715884105728" ∷ [], runs (codes "f") (neg_ℤ (pos (2 ^ 127)) ∷ []) 100000)
    ∷ (codes "--run=f" ∷ codes "--args=170141183460469231731687303715884105728" ∷ [], outside)
    ∷ (codes "--run=f" ∷ codes "--args=-170141183460469231731687303715884105729" ∷ [], outside)
    ∷ (codes "--run=f" ∷ codes "--args" ∷ codes "-7" ∷ [], outside)
    ∷ (codes "--run=f" ∷ codes "--args=+1" ∷ [], outside)
    ∷ (codes "--run=f" ∷ codes "--args=1," ∷ [], outside)
    ∷ (codes "--run=f" ∷ codes "--args=1,,2" ∷ [], outside)
    ∷ (codes "--run=f" ∷ codes "--args=1 2" ∷ [], outside)
    ∷ (codes "--run=f" ∷ codes "--args=--1" ∷ [], outside)
    ∷ (codes "--run=f" ∷ codes "--args=-" ∷ [], outside)
    ∷ []

-- pipelines, and which refusal comes first
abbrev pub pipelines : List Example
pipelines =
    (codes "--pass-pipeline=builtin.module()" ∷ [], nothing)
    ∷ (codes "--pass-pipeline" ∷ codes "builtin.module(full-convert-to-llvm)" ∷ [], asks (Whole (record { pass = FullConvertToLlvm; bits = 64 }) ∷ []) false None)
    ∷ (
      codes "--pass-pipeline=builtin.module(func.func(convert-scf-to-cf,arith-expand))" ∷ [],
      asks (Each FuncFunc (record { pass = ConvertScfToCf; bits = 64 } ∷ record { pass = ArithExpand; bits = 64 } ∷ []) ∷ []) false None,
    )
    ∷ (codes "--pass-pipeline=" ∷ [], Refused (codes "usage: pipeline at 0: Expected"))
    ∷ (codes "--pass-pipeline=builtin.module(convert-scf-to-cf" ∷ [], Refused (codes "usage: pipeline at 32: Expected"))
    ∷ (codes "--pass-pipeline=builtin.module(x)" ∷ [], Refused (codes "usage: pipeline at 15: UnknownPass"))
    ∷ (codes "--pass-pipeline=builtin.module(func.func(full-convert-to-llvm))" ∷ [], Refused (codes "usage: pipeline at 25: WrongAnchor"))
    ∷ (codes "--pass-pipeline=builtin.module(arith-expand{x=1})" ∷ [], Refused (codes "usage: pipeline at 28: UnknownOption"))
    ∷ (codes "--pass-pipeline=builtin.module(convert-arith-to-llvm{index-bitwidth=7})" ∷ [], Refused (codes "usage: pipeline at 52: BadValue"))
    ∷ (codes "--pass-pipeline=x" ∷ codes "--workers=2" ∷ [], Refused (codes "usage: pipeline at 0: Expected"))
    ∷ (codes "--pass-pipeline=x" ∷ codes "--workers=65" ∷ [], outside)
    ∷ (codes "--pass-pipeline=x" ∷ codes "--args=1" ∷ [], outside)
    ∷ (codes "--pass-pipeline=x" ∷ codes "--pass-pipeline=builtin.module()" ∷ [], outside)
    ∷ (codes "--workers=2" ∷ codes "--fuel=1" ∷ [], outside)
    ∷ []

abbrev pub Examples : Type 0
Examples = AreRead forms × AreRead values × AreRead pipelines
