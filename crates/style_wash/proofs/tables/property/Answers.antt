use Rattle.std.proofs.Common.{◌≡◌, ℕ, List, Some, None, MatchOption, Bor, subst}
use Rattle.std.specs.Prelude.{find}
use Rattle.std.specs.Str.{str_eq_ignore_ascii_case}
use Rattle.style_wash.specs.Tables.{properties, property_of}
use Rattle.style_wash.proofs.tables.property.Goals as goal

pub returns : goal.returns
unfolding property_of properties
returns c =
    subst (λ (name : List ℕ). MatchOption c.find_ignore_case.result (find (str_eq_ignore_ascii_case name) properties ≡ None) (λ (text : Bor (List ℕ)). find (str_eq_ignore_ascii_case name) properties ≡ Some text.now))
    c.trim.ensures c.find_ignore_case.ensures
