use Rattle.std.proofs.Common.{◌≡◌, map, drop}
use Rattle.html_references.specs.CodeReferences.{listed_of, found_in}
use Rattle.html_references.proofs.names.found_in.Given as goal

-- the names before this one do not begin the text
abbrev pub invariant-loop-name : goal.invariant-loop-name
invariant-loop-name l = found_in (map listed_of (drop l.name-index l.names)) l.text ≡ found_in (map listed_of l.names) l.text
