-- The lines on a run: the first one says how it ends, each other one is a call of an external function.
use Rattle.std.specs.Prelude.{ℕ, ◌==◌, List, [], ◌∷◌, ◌++◌, ℤ, flat_map, codes, if◌then◌else◌}
use Rattle.std.specs.Option.{unwrap_or}
use Rattle.std.specs.Fmt.{signed_decimal}
use Rattle.tree_text.specs.AttrText.{bit_text}
use Rattle.tree_text.specs.NameText.{name_text}
use Rattle.form_model.specs.Properties.{if_some}
use Rattle.form_model.specs.Codes.{Function, find_function}
use Rattle.machine_model.specs.Worlds.{More, Undefined, Outside, NoRoom, ExternalCall}
use Rattle.meaning_model.specs.Meaning.{End, Done, Stops, Result}

-- a number of a width: one of one bit is `false` for 0, else `true`; another one is written as a signed number
abbrev pub number_text : ℕ → ℤ → List ℕ
number_text w z = if w == 1 then bit_text z else signed_decimal z

-- numbers of these widths, the first one behind `lead` and each other one behind `, `: nothing where there are none
abbrev pub numbers_text : List ℕ → List ℕ → List ℤ → List ℕ
numbers_text lead (w ∷ ws) (z ∷ zs) = lead ++ number_text w z ++ numbers_text (codes ", ") ws zs
numbers_text lead _ _ = []

-- the end of a run whose results have these widths
abbrev pub end_text : List ℕ → End → List ℕ
end_text ws (Done zs) = codes "done" ++ numbers_text (codes " ") ws zs
end_text ws (Stops More) = codes "more"
end_text ws (Stops Undefined) = codes "undefined"
end_text ws (Stops Outside) = codes "outside"
end_text ws (Stops NoRoom) = codes "no room"

-- the line on a call: the function as a symbol, its arguments, and its answers where it has results
abbrev pub call_line : List ℕ → List ℕ → ExternalCall → List ℕ
call_line inputs outputs c =
    codes "call @" ++ name_text c.name ++ codes "(" ++ numbers_text [] inputs c.args ++ codes ")" ++ numbers_text (codes " = ") outputs c.answers ++ codes "\n"

-- the widths of the parameters, and of the results, of the function of this name
abbrev pub inputs_of : List Function → List ℕ → List ℕ
inputs_of fs name = unwrap_or (if_some (find_function name fs) (λ f. f.face.inputs)) []

abbrev pub outputs_of : List Function → List ℕ → List ℕ
outputs_of fs name = unwrap_or (if_some (find_function name fs) (λ f. f.face.outputs)) []

abbrev pub call_lines : List Function → List ExternalCall → List ℕ
call_lines fs trace = flat_map (λ c. call_line (inputs_of fs c.name) (outputs_of fs c.name) c) trace

-- what a run of the function of this name comes to, among these functions
abbrev pub outcome_text : List Function → List ℕ → End → List ExternalCall → List ℕ
outcome_text fs name end trace = end_text (outputs_of fs name) end ++ codes "\n" ++ call_lines fs trace

abbrev pub result_text : {S : Type 0} → List Function → List ℕ → Result S → List ℕ
result_text fs name r = outcome_text fs name r.end r.trace
