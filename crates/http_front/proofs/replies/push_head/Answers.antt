use Rattle.http_front.specs.Replies.{reply_head}
use Rattle.http_front.proofs.Parts.{ten_parts}
use Rattle.http_front.proofs.replies.push_head.Goals as goal

pub returns : goal.returns
unfolding reply_head
returns c =
    ten_parts _ _ _ _ _ _ _ _ _ _ _ _ _ _ _ _ _ _ _ _ _
    c.in_ok-push_status.ensures
    c.in_ok-push_location.ensures
    c.in_ok-push_cookie.ensures
    c.in_ok-push_type.ensures
    (rw c.as_slice.ensures at c.in_ok-push_length.ensures)
    c.in_ok-push_line.ensures
    c.in_ok-push_line-2.ensures
    (rw c.has_images.ensures at c.in_ok-push_policy.ensures)
    c.in_ok-push_line-3.ensures
    c.in_ok-push_line-4.ensures
