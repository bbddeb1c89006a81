use Rattle.http_front.proofs.replies.push_cookie.Goals as goal

pub returns-in-Some : goal.returns-in-Some
returns-in-Some c = rw (c.in-Some.is, ← c.as_str.ensures) c.push_value_line.ensures
