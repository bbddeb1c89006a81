-- The names of the code's elements.
use Rattle.std.specs.Prelude.{ℕ, codes}
use Rattle.std.specs.List.{position_or_len}
use Rattle.html_syntax.specs.Tokenizer.{same}
use Rattle.html_rules.specs.Tables.{Name, message_elements}
use Rattle.html_wash.specs.declared.element.Element.{Element}
use Rattle.html_wash.specs.declared.element.Element.TheVariants as element

-- the name of an element of a message
abbrev pub name_of : Element → Name
name_of element.A = codes "a"
name_of element.Abbr = codes "abbr"
name_of element.Address = codes "address"
name_of element.B = codes "b"
name_of element.Bdo = codes "bdo"
name_of element.Big = codes "big"
name_of element.Blockquote = codes "blockquote"
name_of element.Br = codes "br"
name_of element.Caption = codes "caption"
name_of element.Center = codes "center"
name_of element.Cite = codes "cite"
name_of element.Code = codes "code"
name_of element.Col = codes "col"
name_of element.Colgroup = codes "colgroup"
name_of element.Dd = codes "dd"
name_of element.Del = codes "del"
name_of element.Dfn = codes "dfn"
name_of element.Div = codes "div"
name_of element.Dl = codes "dl"
name_of element.Dt = codes "dt"
name_of element.Em = codes "em"
name_of element.Font = codes "font"
name_of element.H1 = codes "h1"
name_of element.H2 = codes "h2"
name_of element.H3 = codes "h3"
name_of element.H4 = codes "h4"
name_of element.H5 = codes "h5"
name_of element.H6 = codes "h6"
name_of element.Hr = codes "hr"
name_of element.I = codes "i"
name_of element.Img = codes "img"
name_of element.Ins = codes "ins"
name_of element.Kbd = codes "kbd"
name_of element.Li = codes "li"
name_of element.Ol = codes "ol"
name_of element.P = codes "p"
name_of element.Pre = codes "pre"
name_of element.Q = codes "q"
name_of element.S = codes "s"
name_of element.Samp = codes "samp"
name_of element.Small = codes "small"
name_of element.Span = codes "span"
name_of element.Strike = codes "strike"
name_of element.Strong = codes "strong"
name_of element.Sub = codes "sub"
name_of element.Sup = codes "sup"
name_of element.Table = codes "table"
name_of element.Tbody = codes "tbody"
name_of element.Td = codes "td"
name_of element.Tfoot = codes "tfoot"
name_of element.Th = codes "th"
name_of element.Thead = codes "thead"
name_of element.Tr = codes "tr"
name_of element.Tt = codes "tt"
name_of element.U = codes "u"
name_of element.Ul = codes "ul"
name_of element.Var = codes "var"
name_of element.Wbr = codes "wbr"

-- the place of an element in the table of elements
unfoldable pub number_of : Element → ℕ
number_of e = position_or_len (λ n. same n (name_of e)) message_elements
