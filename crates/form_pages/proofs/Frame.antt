-- The pages with forms, and those of faults, are frame.
use Rattle.std.proofs.Common.{◌≡◌, ℕ, true, false, Bool, List, [], ◌∷◌, ◌++◌, codes, decimal, refl, Option, Some, None}
use Rattle.std.specs.List.{flat_map}
use Rattle.std.specs.Str.{chars}
use Rattle.account_pictures.specs.declared.records.Address.{Address}
use Rattle.account_pictures.specs.declared.records.Identity.{Identity}
use Rattle.html_syntax.specs.Token.Token.{End}
use Rattle.html_rules.specs.Tables.{message_elements, frame_elements, is_element, frame_attributes, is_frame_attribute_name}
use Rattle.html_rules.specs.FrameTokens.{is_frame_token, is_frame, opens_mail}
use Rattle.html_rules.proofs.Parts.{is_frame-append}
use Rattle.site_asks.specs.declared.Draft.{Draft}
use Rattle.page_frames.specs.Forms.{hidden, visible, password}
use Rattle.page_frames.specs.Pages.{heading}
use Rattle.page_frames.specs.Paths.{draft_path, identities_path, login_path, send_path}
use Rattle.page_frames.proofs.Frame.{IsLocal, after_text, form_frame, framed_frame, heading_frame, text_area_frame}
use Rattle.form_pages.specs.Compose.{compose_page, draft_form, hidden_inputs, old_inputs, visible_inputs}
use Rattle.form_pages.specs.Identities.{free_form, free_number, identity_form, identity_inputs, identity_page, kept_form}
use Rattle.form_pages.specs.Others.{fault, fault_page, login_form, login_inputs, login_page}

-- ---- compose

old_frame : (old : Option Address) → is_frame (old_inputs old) ≡ true
unfolding old_inputs hidden is_frame_token opens_mail is_element message_elements frame_elements is_frame_attribute_name frame_attributes
old_frame None = refl
old_frame (Some at) = refl

hidden_inputs_frame : (key : List ℕ) (draft : Draft) → is_frame (hidden_inputs key draft) ≡ true
unfolding hidden_inputs hidden is_frame_token opens_mail is_element message_elements frame_elements is_frame_attribute_name frame_attributes
hidden_inputs_frame key draft = old_frame draft.old

visible_inputs_frame : (draft : Draft) → is_frame (visible_inputs draft) ≡ true
unfolding visible_inputs visible is_frame_token opens_mail is_element message_elements frame_elements is_frame_attribute_name frame_attributes
visible_inputs_frame draft = text_area_frame draft.text

draft_form_frame : (path key : List ℕ) (draft : Draft) (label : List ℕ) → IsLocal path → is_frame (draft_form path key draft label) ≡ true
unfolding draft_form
draft_form_frame path key draft label local =
    form_frame path (hidden_inputs key draft ++ visible_inputs draft) label local (is_frame-append (hidden_inputs key draft) (visible_inputs draft) (hidden_inputs_frame key draft) (visible_inputs_frame draft))

pub compose_frame : (key : List ℕ) (draft : Draft) → is_frame (compose_page key draft) ≡ true
unfolding compose_page chars lib.Utf8.encode
compose_frame key draft =
    let send = draft_form send_path key draft (codes "Send") in
    let save = draft_form draft_path key draft (codes "Save draft") in
    framed_frame (codes "Compose") true (heading (codes "Compose") ++ send ++ save)
    (is_frame-append (heading (codes "Compose") ++ send) save
    (is_frame-append (heading (codes "Compose")) send (heading_frame (codes "Compose")) (draft_form_frame send_path key draft (codes "Send") refl))
    (draft_form_frame draft_path key draft (codes "Save draft") refl))

-- ---- identities

identity_inputs_frame : (key : List ℕ) (number : ℕ) (name address : List ℕ) → is_frame (identity_inputs key number name address) ≡ true
unfolding hidden visible is_frame_token opens_mail is_element message_elements frame_elements is_frame_attribute_name frame_attributes
identity_inputs_frame key number name address = refl

form_is_frame : (key : List ℕ) (number : ℕ) (name address : List ℕ) → is_frame (identity_form key number name address) ≡ true
unfolding identity_form chars lib.Utf8.encode
form_is_frame key number name address =
    form_frame identities_path (identity_inputs key number name address) (codes "Save") refl (identity_inputs_frame key number name address)

kept_frame : (key : List ℕ) (kept : List (ℕ × Identity)) → is_frame (flat_map (kept_form key) kept) ≡ true
kept_frame key [] = refl
kept_frame key (entry ∷ more) = is_frame-append (kept_form key entry) (flat_map (kept_form key) more) (form_is_frame key entry.0 entry.1.name entry.1.address) (kept_frame key more)

free_frame : (key : List ℕ) (number : Option ℕ) → is_frame (free_form key number) ≡ true
free_frame key None = refl
free_frame key (Some number) = form_is_frame key number [] []

pub identity_page_frame : (key : List ℕ) (kept : List (ℕ × Identity)) → is_frame (identity_page key kept) ≡ true
unfolding identity_page
identity_page_frame key kept =
    let forms = flat_map (kept_form key) kept in
    let free = free_form key (free_number kept) in
    framed_frame (codes "Identities") true (heading (codes "Identities") ++ forms ++ free)
    (is_frame-append (heading (codes "Identities") ++ forms) free
    (is_frame-append (heading (codes "Identities")) forms (heading_frame (codes "Identities")) (kept_frame key kept)) (free_frame key (free_number kept)))

-- ---- logins and faults

login_inputs_frame : is_frame login_inputs ≡ true
unfolding visible password is_frame_token opens_mail is_element message_elements frame_elements is_frame_attribute_name frame_attributes
login_inputs_frame = refl

login_form_frame : is_frame login_form ≡ true
unfolding login_form chars lib.Utf8.encode
login_form_frame = form_frame login_path login_inputs (codes "Log in") refl login_inputs_frame

pub login_frame : is_frame login_page ≡ true
unfolding login_page
login_frame = framed_frame (codes "Login") false (heading (codes "Login") ++ login_form) (is_frame-append (heading (codes "Login")) login_form (heading_frame (codes "Login")) login_form_frame)

fault_frame : (content : List ℕ) → is_frame (fault content) ≡ true
unfolding fault is_frame_token opens_mail is_element message_elements frame_elements is_frame_attribute_name frame_attributes
fault_frame content = after_text content (End (codes "p") ∷ []) refl

pub fault_page_frame : (status : ℕ) (content : List ℕ) (in_session : Bool) → is_frame (fault_page status content in_session) ≡ true
unfolding fault_page
fault_page_frame status content in_session =
    framed_frame (decimal status) in_session (heading (decimal status) ++ fault content) (is_frame-append (heading (decimal status)) (fault content) (heading_frame (decimal status)) (fault_frame content))
