-- A contract of the form "outcome = definition of the inputs" admits no second outcome: two that satisfy it are the same.
use mathlib.Core.Path.{◌≡◌, sym, ◌∙◌}

pub one_answer : {Inputs Outcome : Type 0} (definition : Inputs → Outcome) (inputs : Inputs) (first second : Outcome)
    → first ≡ definition inputs → second ≡ definition inputs → first ≡ second
one_answer definition inputs first second e f = e ∙ sym f
