use Rattle.std.proofs.Common.{refl, sym, rules}
use Rattle.html_references.specs.CodeReferences.{listed_names}
use Rattle.html_references.proofs.FirstLetters.{none_with}
use Rattle.html_references.proofs.names.names_with_first.Goals as goal

pub returns-in-65 : goal.returns-in-65
unfolding listed_names
returns-in-65 c = rw c.in-65.is refl

pub returns-in-67 : goal.returns-in-67
unfolding listed_names
returns-in-67 c = rw c.in-67.is refl

pub returns-in-68 : goal.returns-in-68
unfolding listed_names
returns-in-68 c = rw c.in-68.is refl

pub returns-in-69 : goal.returns-in-69
unfolding listed_names
returns-in-69 c = rw c.in-69.is refl

pub returns-in-71 : goal.returns-in-71
unfolding listed_names
returns-in-71 c = rw c.in-71.is refl

pub returns-in-73 : goal.returns-in-73
unfolding listed_names
returns-in-73 c = rw c.in-73.is refl

pub returns-in-76 : goal.returns-in-76
unfolding listed_names
returns-in-76 c = rw c.in-76.is refl

pub returns-in-78 : goal.returns-in-78
unfolding listed_names
returns-in-78 c = rw c.in-78.is refl

pub returns-in-79 : goal.returns-in-79
unfolding listed_names
returns-in-79 c = rw c.in-79.is refl

pub returns-in-81 : goal.returns-in-81
unfolding listed_names
returns-in-81 c = rw c.in-81.is refl

pub returns-in-82 : goal.returns-in-82
unfolding listed_names
returns-in-82 c = rw c.in-82.is refl

pub returns-in-83 : goal.returns-in-83
unfolding listed_names
returns-in-83 c = rw c.in-83.is refl

pub returns-in-84 : goal.returns-in-84
unfolding listed_names
returns-in-84 c = rw c.in-84.is refl

pub returns-in-85 : goal.returns-in-85
unfolding listed_names
returns-in-85 c = rw c.in-85.is refl

pub returns-in-89 : goal.returns-in-89
unfolding listed_names
returns-in-89 c = rw c.in-89.is refl

pub returns-in-97 : goal.returns-in-97
unfolding listed_names
returns-in-97 c = rw c.in-97.is refl

pub returns-in-98 : goal.returns-in-98
unfolding listed_names
returns-in-98 c = rw c.in-98.is refl

pub returns-in-99 : goal.returns-in-99
unfolding listed_names
returns-in-99 c = rw c.in-99.is refl

pub returns-in-100 : goal.returns-in-100
unfolding listed_names
returns-in-100 c = rw c.in-100.is refl

pub returns-in-101 : goal.returns-in-101
unfolding listed_names
returns-in-101 c = rw c.in-101.is refl

pub returns-in-102 : goal.returns-in-102
unfolding listed_names
returns-in-102 c = rw c.in-102.is refl

pub returns-in-103 : goal.returns-in-103
unfolding listed_names
returns-in-103 c = rw c.in-103.is refl

pub returns-in-104 : goal.returns-in-104
unfolding listed_names
returns-in-104 c = rw c.in-104.is refl

pub returns-in-105 : goal.returns-in-105
unfolding listed_names
returns-in-105 c = rw c.in-105.is refl

pub returns-in-108 : goal.returns-in-108
unfolding listed_names
returns-in-108 c = rw c.in-108.is refl

pub returns-in-109 : goal.returns-in-109
unfolding listed_names
returns-in-109 c = rw c.in-109.is refl

pub returns-in-110 : goal.returns-in-110
unfolding listed_names
returns-in-110 c = rw c.in-110.is refl

pub returns-in-111 : goal.returns-in-111
unfolding listed_names
returns-in-111 c = rw c.in-111.is refl

pub returns-in-112 : goal.returns-in-112
unfolding listed_names
returns-in-112 c = rw c.in-112.is refl

pub returns-in-113 : goal.returns-in-113
unfolding listed_names
returns-in-113 c = rw c.in-113.is refl

pub returns-in-114 : goal.returns-in-114
unfolding listed_names
returns-in-114 c = rw c.in-114.is refl

pub returns-in-115 : goal.returns-in-115
unfolding listed_names
returns-in-115 c = rw c.in-115.is refl

pub returns-in-116 : goal.returns-in-116
unfolding listed_names
returns-in-116 c = rw c.in-116.is refl

pub returns-in-117 : goal.returns-in-117
unfolding listed_names
returns-in-117 c = rw c.in-117.is refl

pub returns-in-121 : goal.returns-in-121
unfolding listed_names
returns-in-121 c = rw c.in-121.is refl

pub returns-in-122 : goal.returns-in-122
unfolding listed_names
returns-in-122 c = rw c.in-122.is refl

pub returns-in_default : goal.returns-in_default
returns-in_default c = sym (none_with c.args.first (search rules))
