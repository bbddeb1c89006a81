-- End tags of an element's content, computed at some texts.
use Rattle.std.proofs.Common.{◌≡◌, ℕ, Bool, true, false, List, [], ◌∷◌, ◌++◌, map, codes, refl}
use Rattle.html_tokens.specs.Contents.{begins_end_tag}
use Rattle.html_tokens.specs.Scripts.{ends_script}
use Rattle.html_tokens.specs.declared.mode.Content.TheVariants as content
use Rattle.html_tokens.specs.declared.script.Phase.{Phase}
use Rattle.html_tokens.specs.declared.script.Phase.TheVariants as phase

-- whether a title ends before each text
abbrev title_table : List (List ℕ × Bool)
title_table = (codes "</title>a", true)
    ∷ (codes "</TiTle a=b>", true)
    ∷ (codes "</title/", true)
    ∷ (codes "</title" ++ 13 ∷ [], true)
    ∷ (codes "</title" ++ 12 ∷ [], true)
    -- the text ends before the name does, or with it
    ∷ (codes "</titl", false)
    ∷ (codes "</title", false)
    -- another name
    ∷ (codes "</titles>", false)
    ∷ (codes "</textarea>", false)
    ∷ (codes "</ title>", false)
    ∷ (codes "<title>", false)
    ∷ (codes "a</title>", false)
    ∷ []

title : map (λ (r : List ℕ × Bool). begins_end_tag content.Title r.0) title_table ≡ map (λ (r : List ℕ × Bool). r.1) title_table
title = refl

-- whether a script ends before `</script>` in each phase
script : map (λ (p : Phase). ends_script p (codes "</SCRIPT>")) (phase.Plain ∷ phase.Escaped ∷ phase.DoubleEscaped ∷ []) ≡ true ∷ true ∷ false ∷ []
script = refl
