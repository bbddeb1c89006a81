-- The page of a login, and that of a fault.
use Rattle.std.specs.Prelude.{ℕ, false, Bool, List, [], ◌∷◌, ◌++◌, codes, decimal}
use Rattle.html_syntax.specs.Token.{Token}
use Rattle.html_syntax.specs.Token.Token.{End}
use Rattle.html_rules.specs.Tokens.{start_tag_with}
use Rattle.page_frames.specs.Elements.{text}
use Rattle.page_frames.specs.Forms.{form, visible, password}
use Rattle.page_frames.specs.Pages.{heading, framed}
use Rattle.page_frames.specs.Paths.{login_path}

abbrev pub login_inputs : List Token
login_inputs = visible (codes "user") [] ∷ password (codes "password") ∷ []

unfoldable pub login_form : List Token
login_form = form login_path login_inputs (codes "Log in")

unfoldable pub login_page : List Token
login_page = framed (codes "Login") false (heading (codes "Login") ++ login_form)

-- a paragraph that says what is wrong
unfoldable pub fault : List ℕ → List Token
fault content = start_tag_with (codes "p") (codes "class") (codes "fault") ∷ text content ++ End (codes "p") ∷ []

unfoldable pub fault_page : ℕ → List ℕ → Bool → List Token
fault_page status content in_session = framed (decimal status) in_session (heading (decimal status) ++ fault content)
