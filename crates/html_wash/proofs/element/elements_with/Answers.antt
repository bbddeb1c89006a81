use Rattle.std.proofs.Common.{◌∙◌, [], ◌∷◌, codes, refl}
use Rattle.html_rules.specs.Tables.{message_elements, is_message_element}
use Rattle.html_wash.proofs.Elements.{found_by_initial}
use Rattle.html_wash.proofs.element.elements_with.Goals as goal

pub returns-in-97 : goal.returns-in-97
unfolding is_message_element message_elements
returns-in-97 c name e = found_by_initial 97 (codes "a" ∷ codes "abbr" ∷ codes "address" ∷ []) refl refl name (e ∙ c.in-97.is)

pub returns-in-98 : goal.returns-in-98
unfolding is_message_element message_elements
returns-in-98 c name e = found_by_initial 98 (codes "br" ∷ codes "b" ∷ codes "blockquote" ∷ codes "bdo" ∷ codes "big" ∷ []) refl refl name (e ∙ c.in-98.is)

pub returns-in-99 : goal.returns-in-99
unfolding is_message_element message_elements
returns-in-99 c name e = found_by_initial 99 (codes "center" ∷ codes "col" ∷ codes "caption" ∷ codes "colgroup" ∷ codes "cite" ∷ codes "code" ∷ []) refl refl name (e ∙ c.in-99.is)

pub returns-in-100 : goal.returns-in-100
unfolding is_message_element message_elements
returns-in-100 c name e = found_by_initial 100 (codes "div" ∷ codes "dd" ∷ codes "dt" ∷ codes "dl" ∷ codes "del" ∷ codes "dfn" ∷ []) refl refl name (e ∙ c.in-100.is)

pub returns-in-102 : goal.returns-in-102
unfolding is_message_element message_elements
returns-in-102 c name e = found_by_initial 102 (codes "font" ∷ []) refl refl name (e ∙ c.in-102.is)

pub returns-in-104 : goal.returns-in-104
unfolding is_message_element message_elements
returns-in-104 c name e = found_by_initial 104 (codes "h1" ∷ codes "h2" ∷ codes "h3" ∷ codes "hr" ∷ codes "h4" ∷ codes "h5" ∷ codes "h6" ∷ []) refl refl name (e ∙ c.in-104.is)

pub returns-in-105 : goal.returns-in-105
unfolding is_message_element message_elements
returns-in-105 c name e = found_by_initial 105 (codes "img" ∷ codes "i" ∷ codes "ins" ∷ []) refl refl name (e ∙ c.in-105.is)

pub returns-in-108 : goal.returns-in-108
unfolding is_message_element message_elements
returns-in-108 c name e = found_by_initial 108 (codes "li" ∷ []) refl refl name (e ∙ c.in-108.is)

pub returns-in-112 : goal.returns-in-112
unfolding is_message_element message_elements
returns-in-112 c name e = found_by_initial 112 (codes "p" ∷ codes "pre" ∷ []) refl refl name (e ∙ c.in-112.is)

pub returns-in-115 : goal.returns-in-115
unfolding is_message_element message_elements
returns-in-115 c name e = found_by_initial 115 (codes "span" ∷ codes "strong" ∷ codes "small" ∷ codes "s" ∷ codes "strike" ∷ codes "sub" ∷ codes "sup" ∷ codes "samp" ∷ []) refl refl name (e ∙ c.in-115.is)

pub returns-in-116 : goal.returns-in-116
unfolding is_message_element message_elements
returns-in-116 c name e = found_by_initial 116 (codes "td" ∷ codes "tr" ∷ codes "table" ∷ codes "tbody" ∷ codes "th" ∷ codes "thead" ∷ codes "tfoot" ∷ codes "tt" ∷ []) refl refl name (e ∙ c.in-116.is)

pub returns-in-117 : goal.returns-in-117
unfolding is_message_element message_elements
returns-in-117 c name e = found_by_initial 117 (codes "ul" ∷ codes "u" ∷ []) refl refl name (e ∙ c.in-117.is)

pub returns-in_default : goal.returns-in_default
unfolding is_message_element message_elements
returns-in_default c name e = refl
