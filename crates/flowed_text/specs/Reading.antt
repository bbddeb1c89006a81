-- A paragraph that is being read.
use Rattle.std.specs.Prelude.{◌≡◌, Bool, true, ◌&&◌, if◌then◌else◌, List, ◌∷◌, string_bytes}
use Rattle.flowed_text.specs.declared.Para.{Para}
use Rattle.flowed_text.specs.declared.reading.OpenPara.{OpenPara}
use Rattle.flowed_text.specs.Paragraphs.{ends_in_space, joinable_text, first_has_depth, join_lines, onto_first_para}

-- the paragraph up to its last line so far
abbrev pub para_of : OpenPara → Para
para_of begun = record { depth = begun.depth; text = string_bytes begun.text }

-- the paragraphs of one that is read up to a line, and of the lines after it
abbrev pub continue_para : Bool → Bool → Para → List Para → List Para
continue_para del_sp flowing para more = if flowing && first_has_depth para.depth more then onto_first_para (joinable_text del_sp para.text) (join_lines del_sp more) else para ∷ join_lines del_sp more

-- the paragraphs of an open one and of the lines after it
abbrev pub continue_open_para : Bool → OpenPara → List Para → List Para
continue_open_para del_sp begun more = continue_para del_sp begun.flowing (para_of begun) more

-- a paragraph whose last line flows ends in that line's space
abbrev pub EndsInSpaceIfFlowing : OpenPara → Type 0
EndsInSpaceIfFlowing begun = begun.flowing ≡ true → ends_in_space (string_bytes begun.text) ≡ true
