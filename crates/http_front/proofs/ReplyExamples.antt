-- Replies as a browser gets them, worked out from the head's lines by hand.
use Rattle.std.proofs.Common.{◌≡◌, true, false, [], refl}
use Rattle.std.specs.Prelude.{codes, None, Some}
use Rattle.std.specs.Fmt.{digits}
use Rattle.http_front.specs.Replies.{known_phrase, reply_head, reply_text}
use Rattle.site_asks.specs.declared.replies.Kind.TheVariants.{Page, Picture, Raw, To}

-- a page loads no remote images unless they were asked for
plain_page : reply_text (record { status = 200; kind = Page false; body = codes "<p>"; account = codes "ann"; turn = Some 3 }) None
    ≡ codes "HTTP/1.1 200 OK\r\nContent-Type: text/html; charset=utf-8\r\nContent-Length: 3\r\nCache-Control: no-store\r\nX-Content-Type-Options: nosniff\r\nContent-Security-Policy: default-src 'none'; style-src 'self' 'unsafe-inline'; img-src 'self'\r\nConnection: close\r\n\r\n<p>"
unfolding digits reply_head known_phrase
plain_page = refl

page_with_images : reply_text (record { status = 413; kind = Page true; body = []; account = []; turn = None }) None
    ≡ codes "HTTP/1.1 413 Payload Too Large\r\nContent-Type: text/html; charset=utf-8\r\nContent-Length: 0\r\nCache-Control: no-store\r\nX-Content-Type-Options: nosniff\r\nContent-Security-Policy: default-src 'none'; style-src 'self' 'unsafe-inline'; img-src 'self' http: https:\r\nConnection: close\r\n\r\n"
unfolding digits reply_head known_phrase
page_with_images = refl

-- a login sends the browser on, and gives it its cookie; control characters of an address are left out
sent_on : reply_text (record { status = 303; kind = To (codes "/\r\nX: y"); body = []; account = codes "ann"; turn = None }) (Some (codes "0a"))
    ≡ codes "HTTP/1.1 303 See Other\r\nLocation: /X: y\r\nSet-Cookie: wm=0a; HttpOnly; SameSite=Strict; Path=/\r\nContent-Type: text/html; charset=utf-8\r\nContent-Length: 0\r\nCache-Control: no-store\r\nX-Content-Type-Options: nosniff\r\nContent-Security-Policy: default-src 'none'; style-src 'self' 'unsafe-inline'; img-src 'self'\r\nConnection: close\r\n\r\n"
unfolding digits reply_head known_phrase
sent_on = refl

-- a part that is no picture is saved
download : reply_text (record { status = 200; kind = Raw; body = codes "PK"; account = codes "ann"; turn = Some 1 }) None
    ≡ codes "HTTP/1.1 200 OK\r\nContent-Type: application/octet-stream\r\nContent-Disposition: attachment\r\nContent-Length: 2\r\nCache-Control: no-store\r\nX-Content-Type-Options: nosniff\r\nContent-Security-Policy: default-src 'none'; style-src 'self' 'unsafe-inline'; img-src 'self'\r\nConnection: close\r\n\r\nPK"
unfolding digits reply_head known_phrase
download = refl

-- a number that is no status has no phrase
no_phrase : reply_text (record { status = 7; kind = Picture (codes "image/png"); body = []; account = []; turn = None }) None
    ≡ codes "HTTP/1.1 7 \r\nContent-Type: image/png\r\nContent-Length: 0\r\nCache-Control: no-store\r\nX-Content-Type-Options: nosniff\r\nContent-Security-Policy: default-src 'none'; style-src 'self' 'unsafe-inline'; img-src 'self'\r\nConnection: close\r\n\r\n"
unfolding digits reply_head known_phrase
no_phrase = refl
