use Rattle.std.proofs.Common.{◌≡◌, ◌∙◌, refl, sym, ap, map, [], ◌∷◌, ◌++◌, take, get_or}
use Rattle.std.proofs.lemmas.List.{map-append}
use Rattle.folder_pages.specs.Folders.{Key, key_of, key_at, keys_from}
use Rattle.folder_pages.proofs.Sorting.{keys_more}
use Rattle.folder_pages.proofs.folders.keys.Goals as goal

pub loop-place-init : goal.loop-place-init
unfolding keys_from
loop-place-init c = ap (map key_of) c.in_ok-keys.ensures.items

pub loop-place-preserved : goal.loop-place-preserved
loop-place-preserved c =
    let place = c.loop-place.place in
    let folder = c.index-folders-place.result in
    let read : key_of (c.ne.result, c.as_slice-name.result, place) ≡ key_at place (get_or c.args.folders.now place folder) = rw (c.ne.ensures, c.as_slice-name.ensures, c.as_slice.ensures) refl in
    let key = read ∙ ap (key_at place) (sym c.index-folders-place.is) in
    ap (map key_of) c.in_ok-push.ensures.items ∙ map-append key_of c.loop-place.keys.items ((c.ne.result, c.as_slice-name.result, place) ∷ [])
    ∙ ap (λ ks. ks ++ key_of (c.ne.result, c.as_slice-name.result, place) ∷ []) c.loop-place.invariant
    ∙ ap (λ (k : Key). keys_from 0 (take place c.args.folders.now) ++ k ∷ []) key
    ∙ sym (keys_more c.args.folders.now place folder c.loop-place-test.true c.index-folders-place.is)
