-- What holds of all that rules declare.
use Rattle.std.specs.Prelude.{◌≡◌, ℕ, List, IsTrue}
use Rattle.std.specs.List.{AllByRecursion}
use Rattle.html_rules.specs.Tables.{Name}
use Rattle.style_wash.specs.Declarations.{Declaration, IsDeclaration, is_style}
use Rattle.style_rules.specs.Rules.{Entry, Rule, entry_of, rules, with_rules}
use Rattle.style_rules.specs.Cascade.{declared}

-- an entry is the written form of a declaration that an inline style may have
pub record IsWritten (entry : Entry) : Type 0 where
  pub declaration : Declaration
  pub reads : IsDeclaration declaration
  pub is : entry ≡ entry_of declaration

-- each rule has such entries
abbrev pub AreWritten : List Rule → Type 0
AreWritten all = AllByRecursion (λ r. AllByRecursion IsWritten r.entries) all

-- the rules of a text are such rules
abbrev pub ReadRulesAreWritten : Type 0
ReadRulesAreWritten = (kept : List Rule) (text : List ℕ) → AreWritten kept → AreWritten (with_rules kept (rules text))

-- what such rules declare is a washed style, or nothing
abbrev pub DeclaredIsStyle : Type 0
DeclaredIsStyle = (all : List Rule) (name : Name) (classes : List ℕ) → AreWritten all → IsTrue (is_style (declared all name classes))
