-- What several calls hear.
use Rattle.std.proofs.Common.{◌≡◌, ℕ, List, [], ◌++◌, append_assoc, append-nil, sym, ap, ◌∙◌, refl, Option, Some, None}
use Rattle.std.specs.Io.KnownBytes.{Appends, Keeps}
use Rattle.http_front.specs.Receiving.{Hears}

appends_trans : (a b c : Option (List ℕ)) (first second : List ℕ) → Appends a b first → Appends b c second → Appends a c (first ++ second)
appends_trans None b c first second x y = tt
appends_trans (Some xs) None c first second x y = absurd x
appends_trans (Some xs) (Some ys) None first second x y = absurd y
appends_trans (Some xs) (Some ys) (Some zs) first second x y = y ∙ ap (λ (l : List ℕ). l ++ second) x ∙ append_assoc xs first second

-- what two calls heard was appended
pub hears_trans : (a b c : Option (List ℕ)) (x y z : List ℕ) → Hears a b x y → Hears b c y z → Hears a c x z
hears_trans a b c x y z first second = record {
  more = first.more ++ second.more;
  heard = appends_trans a b c first.more second.more first.heard second.heard;
  appended = second.appended ∙ ap (λ (l : List ℕ). l ++ second.more) first.appended ∙ append_assoc x first.more second.more;
}

pub appends_nothing : (a : Option (List ℕ)) → Appends a a []
appends_nothing None = tt
appends_nothing (Some xs) = sym (append-nil xs)

pub hears_nothing : (a : Option (List ℕ)) (bytes : List ℕ) → bytes ≡ [] → Hears a a [] bytes
hears_nothing a bytes empty = record { more = []; heard = appends_nothing a; appended = empty }

pub keeps_all : (a : Option (List ℕ)) → Keeps a a
keeps_all None = tt
keeps_all (Some xs) = refl

-- bytes that were heard from the first on
pub heard_all : (a b : Option (List ℕ)) (bytes : List ℕ) → Hears a b [] bytes → Appends a b bytes
heard_all None b bytes hears = tt
heard_all (Some xs) None bytes hears = absurd hears.heard
heard_all (Some xs) (Some ys) bytes hears = hears.heard ∙ ap (λ (l : List ℕ). xs ++ l) (sym hears.appended)

pub then_hears : (a b c : Option (List ℕ)) (bytes more : List ℕ) → Hears a b [] bytes → Appends b c more → Appends a c (bytes ++ more)
then_hears a b c bytes more first second = appends_trans a b c bytes more (heard_all a b bytes first) second

pub keeps_trans : (a b c : Option (List ℕ)) → Keeps a b → Keeps b c → Keeps a c
keeps_trans None b c x y = tt
keeps_trans (Some xs) None c x y = absurd x
keeps_trans (Some xs) (Some ys) None x y = absurd y
keeps_trans (Some xs) (Some ys) (Some zs) x y = y ∙ x
